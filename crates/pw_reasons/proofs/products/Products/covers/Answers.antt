use Rattle.std.proofs.Common.{◌≡◌, false, sym, ◌∙◌, subst, List}
use Rattle.std.specs.Prelude.{take}
use Rattle.pw_reasons.specs.Nogood.{covers}
use Rattle.pw_reasons.specs.inside.Products.{sets_in_each}
use Rattle.pw_reasons.specs.declared.product.Product.{Product}
use Rattle.pw_reasons.proofs.NogoodLemmas.{part_uncovered}
use Rattle.pw_reasons.proofs.products.Products.covers.Goals as goal

pub any_covers-requires : goal.any_covers-requires
any_covers-requires g c =
    subst (λ (l : List Product). covers (sets_in_each (take c.self.inside.start l)) c.args.premises.now ≡ false) (sym c.deref.ensures.value)
    (part_uncovered (sets_in_each (take c.self.inside.start c.self.inside.list.items)) c.args.premises.now c.self.inside.expected
    (sym c.is_subset.ensures.subset ∙ c.if-is_subset.true) c.self.invariant.none)
