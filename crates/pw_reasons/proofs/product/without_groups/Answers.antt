use Rattle.pw_premises.specs.PremiseSubsets.{is_subset_refl, is_subset_trans}
use Rattle.pw_reasons.proofs.product.without_groups.Goals as goal

pub loop-place-init : goal.loop-place-init
loop-place-init c = is_subset_refl c.args.fixed.now

pub loop-place-preserved : goal.loop-place-preserved
loop-place-preserved c =
    is_subset_trans c.without_all-others.result c.loop-place.others c.args.fixed.now c.without_all-others.ensures c.loop-place.invariant
