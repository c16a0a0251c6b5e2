use Rattle.pw_premises.proofs.PremiseWords.{difference_fits}
use Rattle.pw_premises.proofs.premise_set.PremiseSet.difference.Goals as goal

pub invariant_of-result : goal.invariant_of-result
invariant_of-result c = difference_fits c.self.inside.words c.other.inside.words c.self.invariant
