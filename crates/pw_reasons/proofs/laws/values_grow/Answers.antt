use Rattle.pw_reasons.proofs.ValueGrows.{value_grows}
use Rattle.pw_reasons.proofs.laws.values_grow.Goals as goal

pub returns : goal.returns
returns c = value_grows
