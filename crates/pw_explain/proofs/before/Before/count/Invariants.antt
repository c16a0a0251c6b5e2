use Rattle.std.proofs.Common.{length}
use Rattle.pw_explain.proofs.before.Before.count.Given as goal

abbrev pub decreases-loop-count : goal.decreases-loop-count
decreases-loop-count l = length l.declarings.lines
