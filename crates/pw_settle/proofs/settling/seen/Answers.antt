use Rattle.std.proofs.Common.{◌≡◌, ◌+◌, ◌<◌, ◌++◌, ◌∷◌, [], All, get_or, length, map, refl, rules, take, sym, ap, ◌∙◌, arith}
use Rattle.std.proofs.lemmas.Grind.{common_steps}
use Rattle.std.specs.FinSet.{is_subset}
use Rattle.std.proofs.lemmas.List.{length-map, map_push, take_more}
use Rattle.pw_premises.specs.Premises.{Premises}
use Rattle.pw_network.specs.declared.instance.Instance.{Instance}
use Rattle.pw_network.specs.inside.Held.{attachment}
use Rattle.pw_settle.specs.Calls.{is_instance_visible}
use Rattle.pw_settle.proofs.NewInstances.{item_is}
use Rattle.pw_settle.proofs.SeenLines.{IsFlagged, flag_of_item, flag_of_line, none_flagged}
use Rattle.pw_settle.proofs.settling.seen.Goals as goal
use Rattle.pw_settle.proofs.settling.seen.Goals.{then-its_line-line, else-its_line-line}

pub loop-instance-init : goal.loop-instance-init
loop-instance-init g c = record {
  items = search rules;
  room = first_of (omega arith, search rules, grind (arith, common_steps));
  flag = none_flagged c.args.worldview.now _ (map attachment c.args.instances.now) c.requires.lines;
}

pub loop-instance-preserved : goal.loop-instance-preserved
loop-instance-preserved g c =
    let i = c.loop-instance.instance-index in
    let item = c.instance-item.result in
    let w = c.args.worldview.now in
    let all = map attachment c.args.instances.now in
    let next = c.if-its_line-line in
    let longer : take (i + 1) c.args.instances.now ≡ take i c.args.instances.now ++ item ∷ [] =
    take_more c.args.instances.now i item c.loop-instance-test.true
    ∙ ap (λ (x : Instance). take i c.args.instances.now ++ x ∷ []) (sym c.instance-item.is) in
    let below : i < length all = let long = length-map c.args.instances.now attachment in omega (arith, c.loop-instance-test.true) in
    let here : attachment item ≡ get_or all i (attachment item) = item_is c.args.instances.now all refl i item c.instance-item.is in
    let known : (next.line ≡ (attachment item).line) × All (IsFlagged w next.line next.is_visible) all =
    elim next.branch [
      | then-its_line-line b ↦ (
        b.line-is ∙ c.line-its_line.ensures,
        flag_of_line w all i (attachment item) below here next.line next.is_visible (b.line-is ∙ c.line-its_line.ensures) c.requires.supports
            (b.is_visible-is ∙ b.is_subset-is_visible.ensures.subset ∙ ap (λ (s : Premises). is_subset s w) b.support.ensures),
      )
      | else-its_line-line b ↦ (b.line-is ∙ sym b.if-its_line-line.false ∙ c.line-its_line.ensures, λ k d there same. c.loop-instance.invariant.flag k d there (sym b.line-is ∙ same) ∙ sym b.is_visible-is)
    ] in
    let shown = flag_of_item w all i (attachment item) below here next.line next.is_visible known.0 known.1 in
    record {
      items = c.push_reserved.ensures.items
          ∙ (λ j. c.loop-instance.invariant.items j ++ sym shown j ∷ [])
          ∙ sym (ap (map (is_instance_visible w)) (ap (map attachment) longer ∙ map_push attachment (take i c.args.instances.now) item)
          ∙ map_push (is_instance_visible w) (map attachment (take i c.args.instances.now)) (attachment item));
      room = omega (arith, c.loop-instance.invariant.room, c.push_reserved.ensures.len, c.push_reserved.ensures.capacity);
      flag = known.1;
    }
