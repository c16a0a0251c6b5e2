use Rattle.std.proofs.Common.{length}
use Rattle.pw_explain.proofs.before.Before.offer_compound_cells.Given as goal

abbrev pub decreases-loop-parameter : goal.decreases-loop-parameter
decreases-loop-parameter l = length l.words
