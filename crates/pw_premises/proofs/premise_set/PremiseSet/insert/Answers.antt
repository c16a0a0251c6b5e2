use Rattle.pw_premises.proofs.PremiseWords.{with_fits}
use Rattle.pw_premises.proofs.premise_set.PremiseSet.insert.Goals as goal

pub invariant_of-self : goal.invariant_of-self
invariant_of-self c = with_fits _ c.args.n c.self.invariant c.requires.in_range
