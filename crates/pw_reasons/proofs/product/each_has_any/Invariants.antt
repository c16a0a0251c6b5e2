use Rattle.std.proofs.Common.{◌≤◌}
use Rattle.pw_reasons.proofs.product.each_has_any.Given as goal

abbrev pub invariant-loop-other : goal.invariant-loop-other
invariant-loop-other l = l.place ≤ l.other
