use Rattle.pw_info.proofs.WordLemmas.{given, found_at}
use Rattle.pw_info.proofs.laws.words_are_one_list.Goals as goal

pub returns : goal.returns
returns c = λ line words. (given line words, found_at line words)
