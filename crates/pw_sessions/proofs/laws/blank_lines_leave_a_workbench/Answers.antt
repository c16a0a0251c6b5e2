use Rattle.pw_sessions.proofs.BlankLines.{left_blanks}
use Rattle.pw_sessions.proofs.laws.blank_lines_leave_a_workbench.Goals as goal

pub returns : goal.returns
returns c = λ d before blanks workbench well left. left_blanks d before blanks workbench well left
