use Rattle.std.proofs.Common.{◌+◌, ◌<◌, length, map, sym, ap, ◌∙◌, subst, arith}
use Rattle.std.specs.FinSet.{is_subset}
use Rattle.std.proofs.lemmas.List.{length-map}
use Rattle.pw_premises.specs.Premises.{Premises}
use Rattle.pw_network.specs.Wiring.{wiring}
use Rattle.pw_network.specs.inside.Held.{attachment}
use Rattle.pw_settle.specs.Calls.{is_instance_visible}
use Rattle.pw_settle.proofs.NewlyQueued.{AreLaterTo, later_hidden, later_queued}
use Rattle.pw_settle.proofs.SeenInstances.{seen_at}
use Rattle.pw_settle.proofs.resettling_since.queue_new_instances.Goals as goal
use Rattle.pw_settle.proofs.resettling_since.queue_new_instances.Goals.{then-is_subset, else-is_subset}

pub loop-number-preserved : goal.loop-number-preserved
loop-number-preserved g c =
    let network = wiring c.args.network.now in
    let visible = map (is_instance_visible c.args.worldview.now) network.attached in
    let below : c.loop-number.number < length network.attached =
    omega (
      arith,
      c.loop-number-test.true,
      ap length c.instances-instances.ensures.instances,
      length-map c.instances-instances.result.now attachment,
    ) in
    let there : c.loop-number.number < length visible =
    omega (arith, below, length-map network.attached (is_instance_visible c.args.worldview.now)) in
    let flag =
    seen_at network c.instances-instances.result.now c.args.worldview.now c.loop-number.number c.index-instances-number.result
    c.instances-instances.ensures.instances below c.index-instances-number.is
    ∙ ap (λ (s : Premises). is_subset s c.args.worldview.now) (sym c.support.ensures) ∙ sym c.is_subset.ensures.subset in
    record {
      later = elim c.if-is_subset.branch [
        | then-is_subset w ↦
            subst (AreLaterTo visible c.args.first (c.loop-number.number + 1)) (sym (w.agenda-is ∙ w.add.ensures))
            (later_queued visible c.args.first c.loop-number.number c.loop-number.agenda c.loop-number.invariant.later there (flag ∙ w.if-is_subset.true))
        | else-is_subset w ↦
            subst (AreLaterTo visible c.args.first (c.loop-number.number + 1)) (sym w.agenda-is)
            (later_hidden visible c.args.first c.loop-number.number c.loop-number.agenda c.loop-number.invariant.later (flag ∙ w.if-is_subset.false))
      ];
    }
