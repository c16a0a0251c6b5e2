use Rattle.std.proofs.Common.{◌<◌, ◌≤◌, ℕ, ap, ◌∙◌, subst, arith}
use Rattle.std.specs.Prelude.{not}
use Rattle.std.specs.FinSet.{is_subset}
use Rattle.pw_premises.specs.Premises.{Premises}
use Rattle.pw_network.specs.Wiring.{wiring}
use Rattle.pw_network.specs.inside.Held.{attachment}
use Rattle.pw_network.specs.Network.{Attached}
use Rattle.pw_settle.specs.Values.{attached_no}
use Rattle.pw_settle.specs.Settled.{Settled}
use Rattle.pw_settle.proofs.NewInstances.{item_is, new_hidden, new_later, not_below}
use Rattle.pw_settle.proofs.resettling.is_newly_visible.Goals as goal
use Rattle.pw_settle.proofs.resettling.is_newly_visible.Goals.{then-number-before, else-number-before}

pub returns-after-number-before : goal.returns-after-number-before
returns-after-number-before g c = elim c.if-number-before.branch [
  | then-number-before w ↦
      ap not w.result-is
      ∙ new_hidden (wiring c.args.network.now) c.args.before.now c.args.visible.now c.args.number c.if-visible-number.true
      (subst (λ (n : ℕ). c.args.number < n) (ap (λ (s : Settled). s.instances) c.before-2.view_is) w.if-number-before.true)
      (attachment w.index-instances-number.result) (omega (arith, c.requires.there, c.requires.all)) w.is_subset.result
      (w.is_subset.ensures.subset
      ∙ ap (λ (s : Premises). is_subset s c.before-2.inside.worldview) w.support.ensures
      ∙ ap (λ (a : Attached). is_subset a.support c.before-2.inside.worldview)
      (item_is w.instances.result.now (wiring c.args.network.now).attached w.instances.ensures.instances c.args.number
      w.index-instances-number.result w.index-instances-number.is)
      ∙ ap (λ (s : Settled). is_subset (attached_no (wiring c.args.network.now) c.args.number (attachment w.index-instances-number.result)).support s.worldview) c.before-2.view_is)
  | else-number-before w ↦
      ap not (w.result-is ∙ not_below c.args.number c.before-2.inside.instances w.if-number-before.false)
      ∙ new_later (wiring c.args.network.now) c.args.before.now c.args.visible.now c.args.number c.if-visible-number.true
      (subst (λ (n : ℕ). n ≤ c.args.number) (ap (λ (s : Settled). s.instances) c.before-2.view_is) w.if-number-before.false)
]
