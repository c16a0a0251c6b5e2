use Rattle.pw_info.proofs.Informations.{same_values}
use Rattle.pw_info.proofs.laws.same_values_are_equal.Goals as goal

pub returns : goal.returns
returns c = same_values
