use Rattle.std.proofs.Common.{length}
use Rattle.pw_explain.proofs.before.Before.is_second_version.Given as goal

abbrev pub decreases-loop-line : goal.decreases-loop-line
decreases-loop-line l = length l.lines
