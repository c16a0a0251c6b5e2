use Rattle.std.proofs.Common.{arith}
use Rattle.std.proofs.lemmas.Int.{ints}
use Rattle.pw_procs.proofs.Hulls.{hull_of_none_first, hull_of_none_second, difference_is}
use Rattle.pw_procs.proofs.bodies.sums.difference.Goals as goal

pub returns-then-is_empty : goal.returns-then-is_empty
returns-then-is_empty c = hull_of_none_first _ c.args.t c.args.x c.empty.result (c.is_empty.ensures.0 c.if-is_empty.true) c.empty.ensures.values

pub returns-then-is_empty-2 : goal.returns-then-is_empty-2
returns-then-is_empty-2 c =
    let empty = c.empty-then-is_empty-2 in
    hull_of_none_second _ c.args.t c.args.x empty.result (c.is_empty-2.ensures.0 c.if-is_empty-2.true) empty.ensures.values

pub returns : goal.returns
returns c =
    let one = c.ends-low.ensures in
    let another = c.ends-left.ensures in
    difference_is c.args.t c.args.x c.from_to.result _ _ _ _ _ _ one.least one.greatest another.least another.greatest
    (omega (arith, ints)) (omega (arith, ints)) c.from_to.ensures
