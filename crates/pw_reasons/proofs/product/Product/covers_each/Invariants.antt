use Rattle.std.proofs.Common.{drop}
use Rattle.pw_reasons.specs.Combinations.{groups_of}
use Rattle.pw_reasons.proofs.ProductLemmas.{HaveThoseBefore}
use Rattle.pw_reasons.proofs.product.Product.covers_each.Given as goal

abbrev pub invariant-loop-own : goal.invariant-loop-own
invariant-loop-own l = HaveThoseBefore (groups_of l.self.groups) l.self.place l.believed (drop l.place (groups_of l.groups)) l.own
