use Rattle.std.proofs.Common.{◌≡◌, ◌+◌, length, min}
use Rattle.pw_info.specs.Lines.{lines_of}
use Rattle.pw_explain.specs.Unread.{most_lines}
use Rattle.pw_explain.proofs.line_numbers.LineNumbers.drop_all.Given as goal

-- the lines so far were counted, and the others are left
abbrev pub invariant-loop-count : goal.invariant-loop-count
invariant-loop-count g l = min (l.count + length l.lines) most_lines ≡ min (length (lines_of l.text)) most_lines

abbrev pub decreases-loop-count : goal.decreases-loop-count
decreases-loop-count g l = length l.lines
