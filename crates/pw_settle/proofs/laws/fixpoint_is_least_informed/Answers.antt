use Rattle.pw_settle.proofs.FixpointLemmas.{fixpoint_least}
use Rattle.pw_settle.proofs.laws.fixpoint_is_least_informed.Goals as goal

pub returns : goal.returns
returns g c = fixpoint_least
