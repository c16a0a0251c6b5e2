use Rattle.std.proofs.Common.{◌≡◌, drop}
use Rattle.pw_reasons.specs.Combinations.{groups_of}
use Rattle.pw_reasons.proofs.ProductLemmas.{have_each}
use Rattle.pw_reasons.proofs.product.Product.covers.Given as goal

-- one of each group passed is there
abbrev pub invariant-loop-place : goal.invariant-loop-place
invariant-loop-place l = have_each l.premises (drop l.self.place (groups_of l.self.groups)) ≡ have_each l.premises (drop l.place (groups_of l.self.groups))
