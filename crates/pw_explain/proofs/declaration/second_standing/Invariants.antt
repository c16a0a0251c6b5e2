use Rattle.std.proofs.Common.{length}
use Rattle.pw_explain.proofs.declaration.second_standing.Given as goal

abbrev pub decreases-loop-word : goal.decreases-loop-word
decreases-loop-word l = length l.rest
