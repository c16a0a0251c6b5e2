use Rattle.pw_settle.proofs.FixpointLemmas.{fixpoint_more}
use Rattle.pw_settle.proofs.laws.more_sources_say_more.Goals as goal

pub returns : goal.returns
returns g c = fixpoint_more
