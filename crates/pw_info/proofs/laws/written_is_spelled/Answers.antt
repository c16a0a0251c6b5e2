use Rattle.pw_info.proofs.Numbers.{signed_decimal_spells}
use Rattle.pw_info.proofs.laws.written_is_spelled.Goals as goal

pub returns : goal.returns
returns c = signed_decimal_spells
