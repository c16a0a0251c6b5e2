use Rattle.std.proofs.Common.{arith}
use Rattle.std.proofs.lemmas.Int.{ints}
use Rattle.pw_kinds.proofs.Intervals.{whole_is}
use Rattle.pw_kinds.proofs.interval.Interval.whole.Goals as goal

pub returns-clause-exact : goal.returns-clause-exact
returns-clause-exact c = whole_is _ _ _ (omega (arith, ints)) (omega (arith, ints))
