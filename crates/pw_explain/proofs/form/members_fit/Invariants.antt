use Rattle.std.proofs.Common.{length}
use Rattle.pw_explain.proofs.form.members_fit.Given as goal

abbrev pub decreases-loop-member : goal.decreases-loop-member
decreases-loop-member l = length l.words
