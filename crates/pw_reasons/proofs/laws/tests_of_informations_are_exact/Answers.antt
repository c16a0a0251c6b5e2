use Rattle.pw_reasons.proofs.SameInfoLemmas.{contradiction_is, same_info_is}
use Rattle.pw_reasons.proofs.laws.tests_of_informations_are_exact.Goals as goal

pub returns-clause-same : goal.returns-clause-same
returns-clause-same c = same_info_is

pub returns-clause-contradiction : goal.returns-clause-contradiction
returns-clause-contradiction c = contradiction_is
