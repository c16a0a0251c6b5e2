use Rattle.pw_premises.specs.PremiseSubsets.{is_subset_union_left, is_subset_union_right, union_is_subset_both}
use Rattle.pw_premises.proofs.laws.join_is_least_upper_bound.Goals as goal

pub returns : goal.returns
returns c = record { own = is_subset_union_left; other = is_subset_union_right; least = union_is_subset_both }
