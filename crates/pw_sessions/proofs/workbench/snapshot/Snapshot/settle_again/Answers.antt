use Rattle.std.proofs.Common.{◌≡◌, ◌≤◌, length, sym, ap, subst}
use Rattle.std.specs.Prelude.{OnOk}
use Rattle.pw_network.specs.Wiring.{wiring}
use Rattle.pw_settle.specs.Growth.{RestOnUpstreamAfter, StaysUpstreamAfter}
use Rattle.pw_settle.specs.Settled.{Settled}
use Rattle.pw_sessions.specs.Snapshot.{IsCurrent, Snapshot}
use Rattle.pw_sessions.specs.inside.Steps.{CallsDueAgain}
use Rattle.pw_sessions.proofs.SettledAgain.{calls_again, current_again, fits_again, no_calls_again}
use Rattle.pw_sessions.proofs.workbench.snapshot.Snapshot.settle_again.Goals as goal

pub returns-clause-current : goal.returns-clause-current
returns-clause-current g c =
    current_again (wiring c.args.network.now) c.args.network.now.well c.args.store.now c.resettle_since-outcome.new.store c.requires.sound.kinds c.requires.sound.sound
    c.self.inside.values c.resettle_since-outcome.new.values c.resettle_since-outcome.result c.resettle_since-outcome.ensures.grows
    c.resettle_since-outcome.ensures.found c.resettle_since-outcome.ensures.kept

pub returns-clause-due : goal.returns-clause-due
returns-clause-due g c =
    subst (λ (before : Settled). OnOk c.resettle_since-outcome.result
    (CallsDueAgain (wiring c.args.network.now) c.args.store.now c.resettle_since-outcome.new.store before c.resettle_since-outcome.new.values))
    (ap (λ (s : Snapshot). s.values) c.self.view_is)
    (calls_again (wiring c.args.network.now) c.args.network.now.well c.args.store.now c.resettle_since-outcome.new.store c.requires.sound.kinds c.requires.sound.sound
    c.self.inside.values c.resettle_since-outcome.new.values c.resettle_since-outcome.result c.resettle_since-outcome.ensures.due)

pub returns-clause-none : goal.returns-clause-none
returns-clause-none g c =
    subst (λ (before : Settled). OnOk c.resettle_since-outcome.result
    (IsCurrent (wiring c.args.network.now) c.args.store.now before → c.resettle_since-outcome.new.values.calls ≡ 0))
    (ap (λ (s : Snapshot). s.values) c.self.view_is)
    (no_calls_again (wiring c.args.network.now) c.args.network.now.well c.args.store.now c.resettle_since-outcome.new.store c.requires.sound.kinds c.requires.sound.sound
    c.self.inside.values c.resettle_since-outcome.new.values c.resettle_since-outcome.result c.resettle_since-outcome.ensures.kept
    c.resettle_since-outcome.ensures.due)

pub returns-clause-fits : goal.returns-clause-fits
returns-clause-fits g c =
    fits_again (wiring c.args.network.now) c.args.network.now.well c.args.store.now c.resettle_since-outcome.new.store c.requires.sound.kinds c.requires.sound.sound
    c.self.inside.values c.resettle_since-outcome.new.values c.resettle_since-outcome.result c.is_ok-self-inside.result
    c.is_ok-self-inside.ensures.value c.resettle_since-outcome.ensures.found c.resettle_since-outcome.ensures.refused
    (current_again (wiring c.args.network.now) c.args.network.now.well c.args.store.now c.resettle_since-outcome.new.store c.requires.sound.kinds c.requires.sound.sound
    c.self.inside.values c.resettle_since-outcome.new.values c.resettle_since-outcome.result c.resettle_since-outcome.ensures.grows
    c.resettle_since-outcome.ensures.found c.resettle_since-outcome.ensures.kept)
    (subst (λ (s : Snapshot). length (wiring c.args.network.now).declared.cells ≤ length s.values.infos) (sym c.self.view_is) c.requires.fits.declared)

pub returns-clause-upstream : goal.returns-clause-upstream
returns-clause-upstream g c =
    subst (λ (before : Settled). StaysUpstreamAfter (wiring c.args.network.now) before.supports c.args.store.now c.resettle_since-outcome.new.store)
    (ap (λ (s : Snapshot). s.values) c.self.view_is) c.resettle_since-outcome.ensures.upstream

pub returns-clause-lie : goal.returns-clause-lie
returns-clause-lie g c =
    subst (λ (before : Settled). RestOnUpstreamAfter (wiring c.args.network.now) before.supports c.args.store.now c.resettle_since-outcome.new.values.supports)
    (ap (λ (s : Snapshot). s.values) c.self.view_is) c.resettle_since-outcome.ensures.lie
