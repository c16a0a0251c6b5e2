use Rattle.pw_settle.proofs.FixpointLemmas.{fixpoint_wider}
use Rattle.pw_settle.proofs.laws.further_cells_change_nothing.Goals as goal

pub returns : goal.returns
returns g c = fixpoint_wider
