use Rattle.std.proofs.Common.{◌-◌, length}
use Rattle.pw_explain.proofs.KeptLines.{Looked}
use Rattle.pw_explain.proofs.unread.keep_declaring.Given as goal

abbrev pub invariant-loop-line : goal.invariant-loop-line
invariant-loop-line g l = Looked l.fn.lines l.lines l.fn.numbers.kept.items l.numbers.kept.items l.fn.numbers.passed l.numbers.passed l.kept l.from

abbrev pub decreases-loop-line : goal.decreases-loop-line
decreases-loop-line g l = length l.lines - l.from
