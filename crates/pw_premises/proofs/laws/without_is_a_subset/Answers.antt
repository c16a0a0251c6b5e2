use Rattle.pw_premises.specs.PremiseSubsets.{remove_is_subset}
use Rattle.pw_premises.proofs.laws.without_is_a_subset.Goals as goal

pub returns : goal.returns
returns c = remove_is_subset
