use Rattle.std.proofs.Common.{◌≡◌, ◌∙◌, true, ap, sym, subst, All, List, drop, refl}
use Rattle.std.proofs.lemmas.List.Elements.{All-weaker}
use Rattle.pw_premises.specs.Premises.{Premises}
use Rattle.pw_reasons.specs.Combinations.{groups_of}
use Rattle.pw_reasons.specs.Nogood.{covers}
use Rattle.pw_reasons.specs.inside.Products.{sets_in, sets_in_each, worldviews_beside}
use Rattle.pw_reasons.specs.declared.product.Product.{Product}
use Rattle.pw_reasons.proofs.ProductLemmas.{covers_in}
use Rattle.pw_reasons.proofs.products.Products.covers_each.Goals as goal

pub loop-index-init : goal.loop-index-init
loop-index-init g c = refl

pub returns-then-covers_each : goal.returns-then-covers_each
returns-then-covers_each g c = λ _.
    let worldviews : List Premises = worldviews_beside c.args.believed.now (drop c.args.place (groups_of c.args.groups.now)) in
    let products : List Product = c.as_slice-products.result.now in
    let product : Product = c.index-products-index.result in
    subst (λ (l : List Premises). All (λ w. covers l w ≡ true) worldviews) (ap sets_in_each c.as_slice-products.ensures.value ∙ c.self.view_is)
    (All-weaker (λ w. covers (sets_in product) w ≡ true) (λ w. covers (sets_in_each products) w ≡ true)
    (covers_in products product (c.loop-index.index, c.loop-index-test.true, sym c.index-products-index.is))
    worldviews (c.covers_each.ensures c.if-covers_each.true))

pub loop-index-preserved : goal.loop-index-preserved
loop-index-preserved g c = c.loop-index.invariant
