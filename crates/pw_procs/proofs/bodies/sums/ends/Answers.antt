use Rattle.std.proofs.Common.{arith}
use Rattle.std.proofs.lemmas.Int.{ints}
use Rattle.pw_kinds.specs.Ranges.{IsInIntervalRange}
use Rattle.pw_kinds.proofs.Intervals.{allows_in_range}
use Rattle.pw_procs.proofs.bodies.sums.ends.Goals as goal

pub returns-clause-low : goal.returns-clause-low
returns-clause-low c =
    let range : IsInIntervalRange c.lo.result = allows_in_range c.args.x c.lo.result c.lo.ensures.least.0 in
    (omega (arith, ints), omega (arith, ints))

pub returns-clause-high : goal.returns-clause-high
returns-clause-high c =
    let range : IsInIntervalRange c.hi.result = allows_in_range c.args.x c.hi.result c.hi.ensures.greatest.0 in
    (omega (arith, ints), omega (arith, ints))
