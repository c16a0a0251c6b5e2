use Rattle.pw_settle.proofs.FixpointLemmas.{fixpoint_stays, kind-fixpoint}
use Rattle.pw_settle.proofs.laws.round_leaves_the_fixpoint.Goals as goal

pub returns-clause-stays : goal.returns-clause-stays
returns-clause-stays g c cells over sources are = fixpoint_stays cells over sources are

pub returns-clause-kinds : goal.returns-clause-kinds
returns-clause-kinds g c cells over sources = kind-fixpoint cells over sources
