use Rattle.std.proofs.Common.{length}
use Rattle.pw_explain.proofs.declaration.explain_kinds.Given as goal

abbrev pub decreases-loop-number : goal.decreases-loop-number
decreases-loop-number l = length l.words
