use Rattle.std.proofs.Common.{length}
use Rattle.pw_explain.proofs.command.first_premise_number.Given as goal

abbrev pub decreases-loop-number : goal.decreases-loop-number
decreases-loop-number l = length l.words
