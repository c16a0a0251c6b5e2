use Rattle.std.proofs.Common.{◌≡◌, ◌+◌, ◌<◌, ◌++◌, ℕ, List, [], ◌∷◌, length, refl, sym, take, ap, ◌∙◌, subst, arith}
use Rattle.std.specs.Prelude.{slice_set}
use Rattle.std.proofs.lemmas.Bool.{false≢true}
use Rattle.std.proofs.lemmas.List.{length-map, length-take-le}
use Rattle.pw_reasons.specs.Combinations.{groups_of}
use Rattle.pw_reasons.specs.Groups.{AreGroups, most_groups}
use Rattle.pw_reasons.specs.declared.group.Group.{Group}
use Rattle.pw_reasons.specs.inside.GroupsHeld.{groups_in, premises_in}
use Rattle.pw_reasons.proofs.GroupLemmas.{fills_up_more, groups_in_more, groups_more, last_is_group, last_stands_once, room_for_one}
use Rattle.pw_reasons.proofs.groups.Groups.with.Goals as goal

pub returns-in_err-group-clause-some : goal.returns-in_err-group-clause-some
returns-in_err-group-clause-some c =
    let groups : List (List ℕ) = groups_of c.args.self in
    let group : List ℕ = c.args.premises.now in
    rw c.from_residual.ensures (
      λ never. absurd (false≢true never),
      λ are. c.in_err-group.ensures.some.1 (last_is_group groups group are, last_stands_once groups group are),
    )

pub invariant_of-result : goal.invariant_of-result
invariant_of-result c =
    let held : List Group = c.args.self.held in
    let count : ℕ = c.args.self.count in
    let group : Group = c.in_ok-group.group in
    let groups : List (List ℕ) = groups_of c.args.self in
    let few : count < most_groups = omega (arith, c.if-self-ge-MOST_GROUPS.false) in
    let within : count < length held = room_for_one held count few c.args.self.rest in
    let long : length groups ≡ count = length-map (take count held) premises_in ∙ length-take-le count held (omega arith) in
    let more : groups_in (slice_set held count group) (count + 1) ≡ groups ++ c.args.premises.now ∷ [] =
    groups_in_more held count group within ∙ ap (λ g. groups ++ g ∷ []) c.in_ok-group.ensures.premises in
    let new = c.in_ok-group.ensures.some.0 refl in
    record {
      few = omega arith;
      groups = subst AreGroups (sym more) (groups_more groups c.args.premises.now (omega arith) c.args.self.groups.each new.0 new.1);
      rest = fills_up_more held count group few c.args.self.rest;
    }
