use Rattle.pw_info.proofs.Numbers.{one_number_lem}
use Rattle.pw_info.proofs.laws.one_number.Goals as goal

pub returns : goal.returns
returns c = one_number_lem
