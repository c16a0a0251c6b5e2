use Rattle.pw_sessions.proofs.GrowingValues.{visible_meet}
use Rattle.pw_sessions.proofs.laws.visible_entries_meet_the_laws.Goals as goal

pub returns : goal.returns
returns c = visible_meet
