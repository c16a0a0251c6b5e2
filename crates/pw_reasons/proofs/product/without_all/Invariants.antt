use Rattle.std.proofs.Common.{◌≡◌, true}
use Rattle.std.specs.FinSet.{is_subset}
use Rattle.pw_reasons.proofs.product.without_all.Given as goal

-- what is left is some of the set
abbrev pub invariant-loop-premise : goal.invariant-loop-premise
invariant-loop-premise l = is_subset l.others l.fn.set ≡ true
