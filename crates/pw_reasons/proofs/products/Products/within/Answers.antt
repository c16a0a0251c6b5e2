use Rattle.std.proofs.Common.{◌∙◌, ap, sym, subst, Contains, List}
use Rattle.pw_premises.specs.Premises.{Premises}
use Rattle.pw_reasons.specs.inside.Products.{sets_in_each}
use Rattle.pw_reasons.proofs.ProductLemmas.{each_in}
use Rattle.pw_reasons.proofs.products.Products.within.Goals as goal

pub returns-in-Some-clause-some : goal.returns-in-Some-clause-some
returns-in-Some-clause-some g c = (
  subst (λ (l : List Premises). Contains l c.in-Some.set) (ap sets_in_each c.deref-product-items.ensures.value ∙ c.self.view_is)
      (each_in c.deref-product-items.result.now c.product-item.result (c.loop-product.product-index, c.loop-product-test.true, sym c.product-item.is)
      c.in-Some.set c.in-Some.ensures.some.0),
  c.in-Some.ensures.some.1,
)
