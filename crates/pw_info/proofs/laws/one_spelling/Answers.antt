use Rattle.pw_info.proofs.Numbers.{spelled_is_signed_decimal}
use Rattle.pw_info.proofs.laws.one_spelling.Goals as goal

pub returns : goal.returns
returns c = spelled_is_signed_decimal
