use Rattle.std.proofs.Common.{length}
use Rattle.pw_explain.proofs.command_form.cells_fit.Given as goal

abbrev pub decreases-loop-word : goal.decreases-loop-word
decreases-loop-word l = length l.words
