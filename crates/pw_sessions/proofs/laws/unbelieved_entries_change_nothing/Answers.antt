use Rattle.pw_sessions.proofs.VisibleEntries.{answer-tried}
use Rattle.pw_sessions.proofs.laws.unbelieved_entries_change_nothing.Goals as goal

pub returns : goal.returns
returns c = answer-tried
