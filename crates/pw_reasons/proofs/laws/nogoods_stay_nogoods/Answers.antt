use Rattle.pw_reasons.proofs.NogoodLemmas.{larger_nogood, wider_nogood}
use Rattle.pw_reasons.proofs.laws.nogoods_stay_nogoods.Goals as goal

pub returns-clause-larger : goal.returns-clause-larger
returns-clause-larger c = larger_nogood

pub returns-clause-wider : goal.returns-clause-wider
returns-clause-wider c = wider_nogood
