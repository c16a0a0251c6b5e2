use Rattle.pw_reasons.proofs.PairLemmas.{none_mutual}
use Rattle.pw_reasons.proofs.pairs.Pairs.new.Goals as goal

pub invariant_of-result : goal.invariant_of-result
invariant_of-result g c = none_mutual c.new.result.items c.new.ensures.items
