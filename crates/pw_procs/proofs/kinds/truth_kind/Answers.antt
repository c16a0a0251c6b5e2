use Rattle.std.proofs.Common.{refl}
use Rattle.pw_info.proofs.Informations.{same_set}
use Rattle.pw_procs.proofs.kinds.truth_kind.Goals as goal

pub returns : goal.returns
returns c = same_set _ _ refl refl
