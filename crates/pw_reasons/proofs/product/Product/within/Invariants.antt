use Rattle.pw_reasons.specs.Combinations.{groups_of}
use Rattle.pw_reasons.proofs.ProductLemmas.{IsFoundSoFar}
use Rattle.pw_reasons.proofs.product.Product.within.Given as goal

abbrev pub invariant-loop-place : goal.invariant-loop-place
invariant-loop-place l = IsFoundSoFar l.self.fixed l.premises (groups_of l.self.groups) l.self.place l.place l.set
