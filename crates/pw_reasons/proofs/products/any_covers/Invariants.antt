use Rattle.std.proofs.Common.{◌≡◌, false, take}
use Rattle.pw_reasons.specs.Nogood.{covers}
use Rattle.pw_reasons.specs.inside.Products.{sets_in_each}
use Rattle.pw_reasons.proofs.products.any_covers.Given as goal

-- the sets of those so far cover none
abbrev pub invariant-loop-index : goal.invariant-loop-index
invariant-loop-index l = covers (sets_in_each (take l.index l.products)) l.premises ≡ false
