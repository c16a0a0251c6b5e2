use Rattle.std.proofs.Common.{length}
use Rattle.pw_explain.proofs.before.Before.row.Given as goal

abbrev pub decreases-loop-row : goal.decreases-loop-row
decreases-loop-row l = length l.rows
