use Rattle.pw_procs.proofs.KindLaws.{apart, together}
use Rattle.pw_procs.proofs.laws.kinds_fit_apart.Goals as goal

pub returns : goal.returns
returns c = λ signature xs k. (apart signature xs k, together signature xs k)
