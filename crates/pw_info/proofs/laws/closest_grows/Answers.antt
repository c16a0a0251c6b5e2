use Rattle.pw_info.proofs.Informations.{closest_mono}
use Rattle.pw_info.proofs.laws.closest_grows.Goals as goal

pub returns : goal.returns
returns c = closest_mono
