use Rattle.pw_premises.specs.PremiseSubsets.{no_differences}
use Rattle.pw_premises.proofs.premise_set.PremiseSetPartialEq.eq.Goals as goal

pub returns : goal.returns
returns c =
    no_differences c.is_empty.result c.args.self.now c.args.other.now c.difference.result c.difference-2.result c.join.result
    c.difference.ensures.difference c.difference-2.ensures.difference c.join.ensures.union c.is_empty.ensures.empty
