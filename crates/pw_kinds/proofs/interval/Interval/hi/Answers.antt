use Rattle.std.proofs.Common.{arith}
use Rattle.std.proofs.lemmas.Int.{ints}
use Rattle.pw_kinds.proofs.Intervals.{end_greatest, greatest_of_is}
use Rattle.pw_kinds.proofs.interval.Interval.hi.Goals as goal

pub returns-clause-greatest : goal.returns-clause-greatest
returns-clause-greatest c = end_greatest c.args.self _ (omega (arith, ints)) c.requires

pub returns-clause-exact : goal.returns-clause-exact
returns-clause-exact c = greatest_of_is c.args.self _ (end_greatest c.args.self _ (omega (arith, ints)) c.requires)
