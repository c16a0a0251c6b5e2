use Rattle.std.proofs.Common.{◌≤◌, length}
use Rattle.pw_explain.proofs.before.Declarings.next.Given as goal

-- no line comes back
abbrev pub invariant-loop-line : goal.invariant-loop-line
invariant-loop-line l = length l.self.lines ≤ length l.fn.self.lines

abbrev pub decreases-loop-line : goal.decreases-loop-line
decreases-loop-line l = length l.self.lines
