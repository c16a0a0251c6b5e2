use Rattle.pw_kinds.proofs.Exacts.{same_values}
use Rattle.pw_kinds.proofs.laws.same_exact_values_are_equal.Goals as goal

pub returns : goal.returns
returns c = same_values
