use Rattle.pw_procs.proofs.Hulls.{hull_of_none_first, hull_of_none_second}
use Rattle.pw_procs.proofs.Corners.{in_range_passed, product_is, product_read}
use Rattle.pw_procs.proofs.bodies.products.product.Goals as goal

pub returns-then-is_empty : goal.returns-then-is_empty
returns-then-is_empty c = hull_of_none_first _ c.args.x c.args.y c.empty.result (c.is_empty.ensures.0 c.if-is_empty.true) c.empty.ensures.values

pub returns-then-is_empty-2 : goal.returns-then-is_empty-2
returns-then-is_empty-2 c =
    let empty = c.empty-then-is_empty-2 in
    hull_of_none_second _ c.args.x c.args.y empty.result (c.is_empty-2.ensures.0 c.if-is_empty-2.true) empty.ensures.values

pub times-requires-clause-first : goal.times-requires-clause-first
times-requires-clause-first c = in_range_passed c.ends-low.result.0 c.ends-low.ensures.low

pub times-requires-clause-second : goal.times-requires-clause-second
times-requires-clause-second c = in_range_passed c.ends-left.result.0 c.ends-left.ensures.low

pub times-requires-2-clause-first : goal.times-requires-2-clause-first
times-requires-2-clause-first c = in_range_passed c.ends-low.result.0 c.ends-low.ensures.low

pub times-requires-2-clause-second : goal.times-requires-2-clause-second
times-requires-2-clause-second c = in_range_passed c.ends-left.result.1 c.ends-left.ensures.high

pub times-requires-3-clause-first : goal.times-requires-3-clause-first
times-requires-3-clause-first c = in_range_passed c.ends-low.result.1 c.ends-low.ensures.high

pub times-requires-3-clause-second : goal.times-requires-3-clause-second
times-requires-3-clause-second c = in_range_passed c.ends-left.result.0 c.ends-left.ensures.low

pub times-requires-4-clause-first : goal.times-requires-4-clause-first
times-requires-4-clause-first c = in_range_passed c.ends-low.result.1 c.ends-low.ensures.high

pub times-requires-4-clause-second : goal.times-requires-4-clause-second
times-requires-4-clause-second c = in_range_passed c.ends-left.result.1 c.ends-left.ensures.high

pub returns : goal.returns
returns c =
    let one = c.ends-low.ensures in
    let another = c.ends-left.ensures in
    product_is c.args.x c.args.y c.spanning.result _ _ _ _ _ _ _ _ one.least one.greatest another.least another.greatest
    (product_read _ _ _ one.low another.low c.times.ensures) (product_read _ _ _ one.low another.high c.times-2.ensures)
    (product_read _ _ _ one.high another.low c.times-3.ensures) (product_read _ _ _ one.high another.high c.times-4.ensures) c.spanning.ensures
