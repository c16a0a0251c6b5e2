use Rattle.std.proofs.Common.{◌≡◌, ℕ, ◌∙◌, sym, subst}
use Rattle.std.specs.Prelude.{◌&&◌, IfOk, not}
use Rattle.pw_premises.specs.Premises.{Premises}
use Rattle.pw_cells.specs.Cells.{Store}
use Rattle.pw_network.specs.Wiring.{wiring}
use Rattle.pw_settle.specs.Calls.{is_set, visible_at}
use Rattle.pw_settle.specs.Settled.{IsSettled}
use Rattle.pw_settle.specs.Sound.{IsSound}
use Rattle.pw_settle.specs.inside.Aside.{IsUnderwayAside}
use Rattle.pw_settle.proofs.AsideGrowth.{all_grown}
use Rattle.pw_settle.proofs.growing_aside.grow_aside.Goals as goal

pub grown_values-requires-clause-visible : goal.grown_values-requires-clause-visible
grown_values-requires-clause-visible g c = c.deref.ensures.value ∙ c.in_ok-visible.ensures.visible

pub grown_values-requires-clause-flags : goal.grown_values-requires-clause-flags
grown_values-requires-clause-flags g c = c.in_ok-visible.ensures.flags

pub grown_values-requires-clause-new : goal.grown_values-requires-clause-new
grown_values-requires-clause-new g c =
    subst (λ (e : Premises). (n : ℕ) → is_set c.in_ok-visible.agenda n ≡ (visible_at (wiring c.args.network.now) c.args.worldview.now n
    && not (visible_at (wiring c.args.network.now) e n))) c.worldview.ensures c.in_ok-visible.ensures.new

pub settle_aside_from-requires-clause-sound : goal.settle_aside_from-requires-clause-sound
settle_aside_from-requires-clause-sound g c =
    subst (λ (s : Store). IsSound (wiring c.args.network.now) s) (sym {A = Store} c.grown_values.ensures.unchanged) c.requires.start.sound.sound

pub settle_aside_from-requires-clause-underway : goal.settle_aside_from-requires-clause-underway
settle_aside_from-requires-clause-underway g c =
    let grown = c.in_ok-known.ensures.grown in
    subst (λ (s : Store). IsUnderwayAside (wiring c.args.network.now) s c.args.worldview.now c.in_ok-known.known.infos.items c.in_ok-known.known.supports
    c.grown_values.new.agenda) (sym {A = Store} c.grown_values.ensures.unchanged)
    (record {
      kinds = c.requires.start.sound.kinds;
      found = all_grown (wiring c.args.network.now) c.args.store.now c.requires.start.sound.kinds c.args.before.now.worldview c.args.worldview.now
          c.in_ok-known.known.infos.items c.in_ok-known.known.supports c.grown_values.new.agenda grown;
      flags = grown.flags;
      seen = grown.seen;
      satisfied = grown.satisfied;
    })

pub settle_aside_from-requires-clause-visible : goal.settle_aside_from-requires-clause-visible
settle_aside_from-requires-clause-visible g c = c.deref-2.ensures.value ∙ c.in_ok-visible.ensures.visible

pub returns-clause-settled : goal.returns-clause-settled
returns-clause-settled g c =
    subst (λ (s : Store). IfOk c.settle_aside_from.result (IsSettled (wiring c.args.network.now) s c.args.worldview.now))
    c.grown_values.ensures.unchanged c.settle_aside_from.ensures
