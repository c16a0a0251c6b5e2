use Rattle.std.proofs.Common.{◌≡◌, length}
use Rattle.pw_info.specs.Words.{words_of}
use Rattle.pw_info.proofs.words.without_last_spaces.Given as goal

abbrev pub invariant-loop-shorter : goal.invariant-loop-shorter
invariant-loop-shorter l = words_of l.front ≡ words_of l.line

abbrev pub decreases-loop-shorter : goal.decreases-loop-shorter
decreases-loop-shorter l = length l.front
