use Rattle.std.proofs.Common.{◌≡◌, ◌++◌, true, length, map}
use Rattle.pw_info.specs.GroupNames.{names_in}
use Rattle.pw_decl.specs.inside.Fields.{declared}
use Rattle.pw_transcript.specs.Reading.{all_known, premise_groups}
use Rattle.pw_transcript.specs.inside.Grouping.{all_names, held_groups}
use Rattle.pw_transcript.proofs.choice_text.named_groups.Given as goal

-- the groups so far and those of the remaining words are the groups of all words
abbrev pub invariant-loop-word : goal.invariant-loop-word
invariant-loop-word g l = record {
  named : premise_groups (declared l.declaration) (map names_in l.fn.words)
      ≡ held_groups l.groups ++ premise_groups (declared l.declaration) (map names_in l.words);
  known : all_known (declared l.declaration) (all_names l.words) ≡ true;
}

abbrev pub decreases-loop-word : goal.decreases-loop-word
decreases-loop-word g l = length l.words
