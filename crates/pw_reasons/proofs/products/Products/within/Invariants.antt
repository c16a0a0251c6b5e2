use Rattle.std.proofs.Common.{◌≡◌, false, take}
use Rattle.pw_reasons.specs.Nogood.{covers}
use Rattle.pw_reasons.specs.inside.Products.{sets_in_each}
use Rattle.pw_reasons.proofs.products.Products.within.Given as goal

-- the sets of those so far cover none
abbrev pub invariant-loop-product : goal.invariant-loop-product
invariant-loop-product g l = covers (sets_in_each (take l.product-index l.product-items)) l.premises ≡ false
