use Rattle.std.proofs.Common.{◌≡◌, length}
use Rattle.std.specs.List.{list_all}
use Rattle.pw_info.specs.Name.{is_name}
use Rattle.pw_info.proofs.word_names.are_names.Given as goal

-- what holds of the remaining words holds of all
abbrev pub invariant-loop-word : goal.invariant-loop-word
invariant-loop-word l = list_all is_name l.fn.words ≡ list_all is_name l.words

abbrev pub decreases-loop-word : goal.decreases-loop-word
decreases-loop-word l = length l.words
