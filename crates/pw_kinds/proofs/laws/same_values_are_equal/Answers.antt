use Rattle.pw_kinds.proofs.Intervals.{same_values}
use Rattle.pw_kinds.proofs.laws.same_values_are_equal.Goals as goal

pub returns : goal.returns
returns c = same_values
