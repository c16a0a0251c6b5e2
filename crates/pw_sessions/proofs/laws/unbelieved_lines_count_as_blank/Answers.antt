use Rattle.pw_sessions.proofs.BlankedLines.{reply-blanked}
use Rattle.pw_sessions.proofs.laws.unbelieved_lines_count_as_blank.Goals as goal

pub returns : goal.returns
returns c = reply-blanked
