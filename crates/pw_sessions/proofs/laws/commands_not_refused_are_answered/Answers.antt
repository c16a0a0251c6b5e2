use Rattle.pw_sessions.proofs.BlankLines.{answered}
use Rattle.pw_sessions.proofs.laws.commands_not_refused_are_answered.Goals as goal

pub returns : goal.returns
returns c = answered
