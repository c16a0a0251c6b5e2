use Rattle.std.proofs.Common.{◌≡◌, false, length, refl, sym, ap, ◌∙◌, subst, arith}
use Rattle.std.proofs.lemmas.List.{take_all}
use Rattle.pw_reasons.specs.Nogood.{covers}
use Rattle.pw_reasons.specs.inside.Products.{sets_in, sets_in_each}
use Rattle.pw_reasons.specs.declared.product.Product.{Product}
use Rattle.pw_reasons.proofs.ProductLemmas.{none_covers_more, none_of_all}
use Rattle.pw_reasons.proofs.products.first_covering.Goals as goal

pub loop-index-init : goal.loop-index-init
loop-index-init c = refl

pub returns-then-covers : goal.returns-then-covers
returns-then-covers c = record { few = omega (arith, c.loop-index-test.true); none = c.loop-index.invariant }

pub loop-index-preserved : goal.loop-index-preserved
loop-index-preserved c =
    none_covers_more c.args.products.now c.loop-index.index c.index-products-index.result c.args.premises.now c.loop-index-test.true c.loop-index.invariant
    (subst (λ (p : Product). covers (sets_in p) c.args.premises.now ≡ false) c.index-products-index.is (sym c.covers.ensures ∙ c.if-covers.false))

pub returns : goal.returns
returns c = record {
  few = omega arith;
  none = ap (λ l. covers (sets_in_each l) c.args.premises.now) (take_all (length c.args.products.now) c.args.products.now (omega arith))
      ∙ none_of_all c.args.products.now c.loop-index.index c.args.premises.now c.loop-index-test.false c.loop-index.invariant;
}
