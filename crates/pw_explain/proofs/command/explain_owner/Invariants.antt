use Rattle.std.proofs.Common.{length}
use Rattle.pw_explain.proofs.command.explain_owner.Given as goal

abbrev pub decreases-loop-word : goal.decreases-loop-word
decreases-loop-word g l = length l.words
