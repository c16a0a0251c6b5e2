use Rattle.pw_reasons.proofs.ReasonLemmas.{reason_needed, reason_part, reason_same}
use Rattle.pw_reasons.proofs.laws.reasons_are_irredundant.Goals as goal

pub returns-clause-part : goal.returns-clause-part
returns-clause-part c = reason_part

pub returns-clause-same : goal.returns-clause-same
returns-clause-same c = reason_same

pub returns-clause-needed : goal.returns-clause-needed
returns-clause-needed c = reason_needed
