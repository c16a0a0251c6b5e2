use Rattle.pw_premises.specs.PremiseSubsets.{no_difference}
use Rattle.pw_premises.proofs.premise_set.PremiseSet.is_subset.Goals as goal

pub returns : goal.returns
returns c = record { subset = no_difference c.is_empty.result c.args.self.now c.args.other.now c.difference.result c.difference.ensures.difference c.is_empty.ensures.empty }
