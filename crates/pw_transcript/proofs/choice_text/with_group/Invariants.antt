use Rattle.std.proofs.Common.{◌≡◌, ◌+◌, ◌≤◌, ◌++◌, true, length, take}
use Rattle.pw_info.specs.GroupNames.{names_in}
use Rattle.pw_reasons.specs.Groups.{most_in_a_group}
use Rattle.pw_decl.specs.inside.Fields.{declared}
use Rattle.pw_transcript.specs.Reading.{all_known, premises_named}
use Rattle.pw_transcript.proofs.choice_text.with_group.Given as goal

-- the premises so far and those of the remaining names are the premises of all names
abbrev pub invariant-loop-name : goal.invariant-loop-name
invariant-loop-name g l = record {
  room : length l.premises ≡ most_in_a_group;
  most : l.count ≤ most_in_a_group;
  counted : l.count + length l.names ≡ length (names_in l.fn.word);
  named : premises_named (declared l.declaration) (names_in l.fn.word) ≡ take l.count l.premises ++ premises_named (declared l.declaration) l.names;
  known : all_known (declared l.declaration) l.names ≡ true;
}

abbrev pub decreases-loop-name : goal.decreases-loop-name
decreases-loop-name g l = length l.names
