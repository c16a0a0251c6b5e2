use Rattle.pw_info.proofs.Dots.{text_spells}
use Rattle.pw_info.proofs.laws.written_range_is_spelled.Goals as goal

pub returns : goal.returns
returns c = text_spells
