use Rattle.std.proofs.Common.{length}
use Rattle.pw_explain.proofs.declaration.stands_before.Given as goal

abbrev pub decreases-loop-other : goal.decreases-loop-other
decreases-loop-other l = length l.words
