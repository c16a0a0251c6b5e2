use Rattle.std.proofs.Common.{◌≡◌, false, sym, ◌∙◌, subst}
use Rattle.pw_reasons.specs.Nogood.{covers}
use Rattle.pw_reasons.specs.inside.Products.{sets_in}
use Rattle.pw_reasons.specs.declared.product.Product.{Product}
use Rattle.pw_reasons.proofs.ProductLemmas.{covers_in, none_covers_more, none_of_all}
use Rattle.pw_reasons.proofs.products.any_covers.Goals as goal

pub loop-index-init : goal.loop-index-init
loop-index-init c = c.requires

pub returns-then-covers : goal.returns-then-covers
returns-then-covers c =
    sym (covers_in c.args.products.now c.index-products-index.result (c.loop-index.index, c.loop-index-test.true, sym c.index-products-index.is)
    c.args.premises.now (sym c.covers.ensures ∙ c.if-covers.true))

pub loop-index-preserved : goal.loop-index-preserved
loop-index-preserved c =
    none_covers_more c.args.products.now c.loop-index.index c.index-products-index.result c.args.premises.now c.loop-index-test.true c.loop-index.invariant
    (subst (λ (p : Product). covers (sets_in p) c.args.premises.now ≡ false) c.index-products-index.is (sym c.covers.ensures ∙ c.if-covers.false))

pub returns : goal.returns
returns c = sym (none_of_all c.args.products.now c.loop-index.index c.args.premises.now c.loop-index-test.false c.loop-index.invariant)
