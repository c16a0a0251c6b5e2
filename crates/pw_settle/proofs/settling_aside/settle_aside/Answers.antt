use Rattle.std.proofs.Common.{sym, ◌∙◌, subst}
use Rattle.std.specs.Prelude.{IfOk}
use Rattle.pw_cells.specs.Cells.{Store}
use Rattle.pw_network.specs.Wiring.{wiring}
use Rattle.pw_settle.specs.Settled.{IsSettled}
use Rattle.pw_settle.specs.Sound.{IsSound, IsSoundFor}
use Rattle.pw_settle.specs.inside.Aside.{AreFound, IsUnderwayAside}
use Rattle.pw_settle.proofs.settling_aside.settle_aside.Goals as goal

pub unmet_instances-requires-clause-sound : goal.unmet_instances-requires-clause-sound
unmet_instances-requires-clause-sound g c =
    subst (λ (s : Store). IsSoundFor (wiring c.args.network.now) s) (sym {A = Store} c.start_values.ensures.unchanged) c.requires.sound

pub unmet_instances-requires-clause-before : goal.unmet_instances-requires-clause-before
unmet_instances-requires-clause-before g c =
    subst (λ (s : Store). IsSettled (wiring c.args.network.now) s c.args.before.now.worldview c.args.before.now)
    (sym {A = Store} c.start_values.ensures.unchanged) c.requires.before

pub unmet_instances-requires-clause-visible : goal.unmet_instances-requires-clause-visible
unmet_instances-requires-clause-visible g c =
    c.deref.ensures.value ∙ c.in_ok-visible.ensures

pub unmet_instances-requires-clause-found : goal.unmet_instances-requires-clause-found
unmet_instances-requires-clause-found g c =
    subst (λ (s : Store). AreFound (wiring c.args.network.now) s c.args.worldview.now c.in_ok-known.known.infos.items c.in_ok-known.known.supports)
    (sym {A = Store} c.start_values.ensures.unchanged) c.in_ok-known.ensures.found

pub settle_aside_from-requires-clause-sound : goal.settle_aside_from-requires-clause-sound
settle_aside_from-requires-clause-sound g c =
    subst (λ (s : Store). IsSound (wiring c.args.network.now) s) (sym {A = Store} c.start_values.ensures.unchanged) c.requires.sound.sound

pub settle_aside_from-requires-clause-underway : goal.settle_aside_from-requires-clause-underway
settle_aside_from-requires-clause-underway g c =
    subst (λ (s : Store). IsUnderwayAside (wiring c.args.network.now) s c.args.worldview.now c.in_ok-known.known.infos.items c.in_ok-known.known.supports
    c.in_ok-agenda.agenda) (sym {A = Store} c.start_values.ensures.unchanged)
    (record {
      kinds = c.requires.sound.kinds;
      found = c.in_ok-known.ensures.found;
      flags = c.in_ok-agenda.ensures.flags;
      seen = c.in_ok-agenda.ensures.seen;
      satisfied = c.in_ok-agenda.ensures.satisfied;
    })

pub settle_aside_from-requires-clause-visible : goal.settle_aside_from-requires-clause-visible
settle_aside_from-requires-clause-visible g c =
    c.deref-2.ensures.value ∙ c.in_ok-visible.ensures

pub returns-clause-settled : goal.returns-clause-settled
returns-clause-settled g c =
    subst (λ (s : Store). IfOk c.settle_aside_from.result (IsSettled (wiring c.args.network.now) s c.args.worldview.now))
    c.start_values.ensures.unchanged c.settle_aside_from.ensures
