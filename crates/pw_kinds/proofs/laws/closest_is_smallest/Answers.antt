use Rattle.pw_kinds.proofs.Intervals.{closest_closest}
use Rattle.pw_kinds.proofs.laws.closest_is_smallest.Goals as goal

pub returns : goal.returns
returns c = closest_closest
