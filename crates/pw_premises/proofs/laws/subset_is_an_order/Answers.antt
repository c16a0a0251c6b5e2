use Rattle.pw_premises.specs.PremiseSubsets.{is_subset_refl, is_subset_trans, is_subset_antisym, empty_is_subset}
use Rattle.pw_premises.proofs.laws.subset_is_an_order.Goals as goal

pub returns : goal.returns
returns c = record { reflexive = is_subset_refl; transitive = is_subset_trans; antisymmetric = is_subset_antisym; least = empty_is_subset }
