use Rattle.std.proofs.Common.{◌≡◌, ◌<◌, length, ap, sym, ◌∙◌, arith}
use Rattle.std.specs.FinSet.{is_subset}
use Rattle.std.proofs.lemmas.Bool.{eqb-true}
use Rattle.std.proofs.lemmas.List.{length-map}
use Rattle.pw_premises.specs.Premises.{Premises}
use Rattle.pw_network.specs.declared.instance.Instance.{Instance}
use Rattle.pw_network.specs.inside.Held.{attachment}
use Rattle.pw_network.specs.Wiring.{wiring}
use Rattle.pw_sessions.proofs.WrittenLemmas.{all_left, found_one, next_below, none_attached, passed_one}
use Rattle.pw_sessions.proofs.workbench.questions.is_written_by.Goals as goal

pub returns-then-is_empty : goal.returns-then-is_empty
returns-then-is_empty g c =
    let none : length c.instances-instances.result.now ≡ 0 = eqb-true (length c.instances-instances.result.now) 0 (sym c.is_empty.ensures ∙ c.if-is_empty.true) in
    let l = length-map c.instances-instances.result.now attachment in
    let m = ap length c.instances-instances.ensures.instances in
    none_attached (wiring c.args.network.now).attached c.args.cell c.args.worldview.now (omega (arith, none, l, m))

pub loop-number-init : goal.loop-number-init
loop-number-init g c = record {
  can_next = tt;
  is_finite = tt;
  left = all_left (wiring c.args.network.now).attached c.args.cell c.args.worldview.now c.into_iter-number-iterator.result
      (c.into_iter-number-iterator.ensures.into_iter_gives ∙ c.writers-number-items.ensures);
}

pub loop-number-preserved : goal.loop-number-preserved
loop-number-preserved g c = record {
  can_next = tt;
  is_finite = tt;
  left = passed_one (wiring c.args.network.now).attached c.args.cell c.args.worldview.now c.loop-number.number-iterator c.loop-number.invariant.left
      c.in-Some.number c.next.new.self c.in-Some.ensures.steps c.instances-instances.result.now c.index-instances-number.result
      c.instances-instances.ensures.instances c.is_subset.result (c.is_subset.ensures.subset ∙ ap (λ (s : Premises). is_subset s c.args.worldview.now) c.support.ensures
      ∙ ap (λ (i : Instance). is_subset (attachment i).support c.args.worldview.now) c.index-instances-number.is) c.if-is_subset.false;
}

pub returns-then-is_subset : goal.returns-then-is_subset
returns-then-is_subset g c =
    found_one (wiring c.args.network.now).attached c.args.cell c.args.worldview.now c.loop-number.number-iterator c.loop-number.invariant.left
    c.in-Some.number c.next.new.self c.in-Some.ensures.steps c.instances-instances.result.now c.index-instances-number.result
    c.instances-instances.ensures.instances c.is_subset.result (c.is_subset.ensures.subset ∙ ap (λ (s : Premises). is_subset s c.args.worldview.now) c.support.ensures
    ∙ ap (λ (i : Instance). is_subset (attachment i).support c.args.worldview.now) c.index-instances-number.is) c.if-is_subset.true

pub bounds-instances-number : goal.bounds-instances-number
bounds-instances-number g c =
    let below = next_below (wiring c.args.network.now).attached c.args.cell c.args.worldview.now c.loop-number.number-iterator c.loop-number.invariant.left
    c.in-Some.number c.next.new.self c.in-Some.ensures.steps in
    let l = length-map c.instances-instances.result.now attachment in
    let m = ap length c.instances-instances.ensures.instances in
    omega (arith, below, l, m)

pub offset_bounds-instances-number : goal.offset_bounds-instances-number
offset_bounds-instances-number g c = let below = bounds-instances-number g c in omega (arith, below)
