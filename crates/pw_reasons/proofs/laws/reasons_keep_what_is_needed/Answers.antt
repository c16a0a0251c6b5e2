use Rattle.pw_reasons.proofs.ReasonLemmas.{reason_keeps}
use Rattle.pw_reasons.proofs.laws.reasons_keep_what_is_needed.Goals as goal

pub returns : goal.returns
returns c = reason_keeps
