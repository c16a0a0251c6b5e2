use Rattle.pw_settle.proofs.FixpointLemmas.{fixpoint_below, fixpoint_says}
use Rattle.pw_settle.proofs.laws.fixpoint_says_what_sources_say.Goals as goal

pub returns-clause-says : goal.returns-clause-says
returns-clause-says g c = fixpoint_says

pub returns-clause-least : goal.returns-clause-least
returns-clause-least g c = fixpoint_below
