use Rattle.std.proofs.Common.{length}
use Rattle.pw_explain.proofs.before.Before.offer_names.Given as goal

abbrev pub decreases-loop-declaring : goal.decreases-loop-declaring
decreases-loop-declaring l = length l.declarings.lines
