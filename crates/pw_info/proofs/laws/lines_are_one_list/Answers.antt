use Rattle.pw_info.proofs.LineLemmas.{given, found_at}
use Rattle.pw_info.proofs.laws.lines_are_one_list.Goals as goal

pub returns : goal.returns
returns c = λ text lines. (given text lines, found_at text lines)
