use Rattle.std.proofs.Common.{◌≡◌, length}
use Rattle.std.specs.List.{list_all}
use Rattle.pw_transcript.specs.inside.Grouping.{is_group_word}
use Rattle.pw_transcript.proofs.group_names.are_group_words.Given as goal

-- all are groups if the remaining ones are
abbrev pub invariant-loop-word : goal.invariant-loop-word
invariant-loop-word l = list_all is_group_word l.fn.words ≡ list_all is_group_word l.words

abbrev pub decreases-loop-word : goal.decreases-loop-word
decreases-loop-word l = length l.words
