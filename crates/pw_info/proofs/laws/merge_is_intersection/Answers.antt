use Rattle.pw_info.proofs.Informations.{is_nothing-nothing, allows-contradiction, allows-meet}
use Rattle.pw_info.proofs.laws.merge_is_intersection.Goals as goal

pub returns : goal.returns
returns c = record { nothing = is_nothing-nothing; contradiction = allows-contradiction; meet = allows-meet }
