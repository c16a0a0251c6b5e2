use Rattle.std.proofs.Common.{◌≡◌, ◌+◌, ◌≤◌, length}
use Rattle.pw_info.specs.GroupNames.{names_in}
use Rattle.pw_reasons.specs.Groups.{most_in_a_group}
use Rattle.pw_transcript.proofs.group_names.names_are_few.Given as goal

-- the names so far and the remaining ones are all names
abbrev pub invariant-loop-count : goal.invariant-loop-count
invariant-loop-count l = record {
  few : l.count ≤ most_in_a_group;
  counted : l.count + length l.names ≡ length (names_in l.fn.word);
}

abbrev pub decreases-loop-count : goal.decreases-loop-count
decreases-loop-count l = length l.names
