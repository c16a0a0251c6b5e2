use Rattle.std.proofs.Common.{◌≡◌, true, sym, subst}
use Rattle.std.specs.FinSet.{is_subset}
use Rattle.pw_premises.specs.Premises.{Premises}
use Rattle.pw_premises.specs.PremiseSubsets.{is_subset_refl, is_subset_trans, remove_is_subset}
use Rattle.pw_reasons.proofs.product.without_all.Goals as goal

pub loop-premise-init : goal.loop-premise-init
loop-premise-init c = is_subset_refl c.args.set

pub loop-premise-preserved : goal.loop-premise-preserved
loop-premise-preserved c =
    is_subset_trans c.without-others.result c.loop-premise.others c.args.set
    (subst (λ (s : Premises). is_subset s c.loop-premise.others ≡ true) (sym c.without-others.ensures.removed) (remove_is_subset c.loop-premise.others _))
    c.loop-premise.invariant
