use Rattle.std.proofs.Common.{◌≡◌}
use Rattle.pw_reasons.proofs.products.Products.covers_each.Given as goal

-- the believed premises are as they were
abbrev pub invariant-loop-index : goal.invariant-loop-index
invariant-loop-index g l = l.believed ≡ l.fn.believed
