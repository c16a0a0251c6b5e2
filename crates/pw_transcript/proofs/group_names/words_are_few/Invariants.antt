use Rattle.std.proofs.Common.{◌≡◌, ◌+◌, ◌≤◌, length}
use Rattle.std.specs.List.{list_all}
use Rattle.pw_reasons.specs.Groups.{most_groups}
use Rattle.pw_transcript.specs.inside.Grouping.{has_few_names}
use Rattle.pw_transcript.proofs.group_names.words_are_few.Given as goal

-- the words so far and the remaining ones are all words, and the names are few in each of the
-- former
abbrev pub invariant-loop-word : goal.invariant-loop-word
invariant-loop-word l = record {
  few : l.count ≤ most_groups;
  counted : l.count + length l.words ≡ length l.fn.words;
  names : list_all has_few_names l.fn.words ≡ list_all has_few_names l.words;
}

abbrev pub decreases-loop-word : goal.decreases-loop-word
decreases-loop-word l = length l.words
