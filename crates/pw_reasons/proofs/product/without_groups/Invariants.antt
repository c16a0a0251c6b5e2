use Rattle.std.proofs.Common.{◌≡◌, true}
use Rattle.std.specs.FinSet.{is_subset}
use Rattle.pw_reasons.proofs.product.without_groups.Given as goal

-- what is left is some of the fixed premises
abbrev pub invariant-loop-place : goal.invariant-loop-place
invariant-loop-place l = is_subset l.others l.fn.fixed ≡ true
