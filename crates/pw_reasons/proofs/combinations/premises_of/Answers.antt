use Rattle.std.proofs.Common.{◌<◌, ℕ, List, length, arith}
use Rattle.pw_reasons.specs.Combinations.{groups_of}
use Rattle.pw_reasons.proofs.SetLemmas.{one_joined}
use Rattle.pw_reasons.proofs.combinations.premises_of.Goals as goal

pub loop-place-preserved : goal.loop-place-preserved
loop-place-preserved c =
    let groups : List (List ℕ) = groups_of c.args.groups.now in
    let within : c.loop-place.place < length groups = omega (arith, c.len-place-end.ensures.len, c.loop-place-test.true) in
    one_joined c.loop-place.set c.join-set.result c.set_of.result groups c.loop-place.place c.group.result.now within c.group.ensures c.loop-place.invariant
    c.set_of.ensures c.join-set.ensures.union
