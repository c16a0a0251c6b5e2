use Rattle.std.proofs.Common.{arith}
use Rattle.std.proofs.lemmas.Int.{ints, clamps}
use Rattle.pw_procs.proofs.Hulls.{hull_of_none}
use Rattle.pw_procs.proofs.Corners.{product_read, square_above, square_below, square_across}
use Rattle.pw_procs.proofs.bodies.products.square.Goals as goal

pub returns-then-is_empty : goal.returns-then-is_empty
returns-then-is_empty c = hull_of_none _ c.args.x c.empty.result (c.is_empty.ensures.0 c.if-is_empty.true) c.empty.ensures.values

pub returns-then-low-gt0 : goal.returns-then-low-gt0
returns-then-low-gt0 c =
    let at = c.ends-low.ensures in
    square_above c.args.x c.from_to.result _ _ _ _ at.least at.greatest (product_read _ _ _ at.low at.low c.times-left.ensures)
    (product_read _ _ _ at.high at.high c.times-right.ensures) (omega (arith, ints)) c.from_to.ensures

pub returns-then-high-lt0 : goal.returns-then-high-lt0
returns-then-high-lt0 c =
    let at = c.ends-low.ensures in
    let made = c.from_to-then-high-lt0 in
    square_below c.args.x made.result _ _ _ _ at.least at.greatest (product_read _ _ _ at.low at.low c.times-left.ensures)
    (product_read _ _ _ at.high at.high c.times-right.ensures) (omega (arith, ints)) made.ensures

pub returns : goal.returns
returns c =
    let at = c.ends-low.ensures in
    square_across c.args.x c.from_to-2.result _ _ _ _ _ at.least at.greatest (product_read _ _ _ at.low at.low c.times-left.ensures)
    (product_read _ _ _ at.high at.high c.times-right.ensures) (omega (arith, ints)) (omega (arith, ints)) (omega (arith, ints, clamps)) c.from_to-2.ensures
