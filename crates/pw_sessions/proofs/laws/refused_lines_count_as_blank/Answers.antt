use Rattle.pw_sessions.proofs.BlankLemmas.{refused_is_blank}
use Rattle.pw_sessions.proofs.laws.refused_lines_count_as_blank.Goals as goal

pub returns : goal.returns
returns c = refused_is_blank
