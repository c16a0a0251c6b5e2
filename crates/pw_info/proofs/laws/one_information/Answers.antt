use Rattle.pw_info.proofs.Spellings.{one_info}
use Rattle.pw_info.proofs.laws.one_information.Goals as goal

pub returns : goal.returns
returns c = λ sets word k known named a b. one_info sets word k a b known named
