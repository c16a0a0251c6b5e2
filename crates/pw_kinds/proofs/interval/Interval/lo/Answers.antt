use Rattle.std.proofs.Common.{arith}
use Rattle.std.proofs.lemmas.Int.{ints}
use Rattle.pw_kinds.proofs.Intervals.{end_least, least_of_is}
use Rattle.pw_kinds.proofs.interval.Interval.lo.Goals as goal

pub returns-clause-least : goal.returns-clause-least
returns-clause-least c = end_least c.args.self _ (omega (arith, ints)) c.requires

pub returns-clause-exact : goal.returns-clause-exact
returns-clause-exact c = least_of_is c.args.self _ (end_least c.args.self _ (omega (arith, ints)) c.requires)
