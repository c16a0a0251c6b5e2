use Rattle.std.proofs.Common.{◌-◌, length}
use Rattle.pw_info.specs.Words.{is_plain}
use Rattle.pw_info.proofs.LaneLemmas.{IsInRun}
use Rattle.pw_info.proofs.words.word_len.Given as goal

abbrev pub invariant-loop-end : goal.invariant-loop-end
invariant-loop-end l = IsInRun is_plain l.bytes l.end

abbrev pub decreases-loop-end : goal.decreases-loop-end
decreases-loop-end l = length l.bytes - l.end

abbrev pub invariant-loop-end-2 : goal.invariant-loop-end-2
invariant-loop-end-2 l = IsInRun is_plain l.bytes l.end

abbrev pub decreases-loop-end-2 : goal.decreases-loop-end-2
decreases-loop-end-2 l = length l.bytes - l.end
