use Rattle.std.proofs.Common.{◌≡◌, length}
use Rattle.std.specs.List.{list_all}
use Rattle.pw_transcript.specs.inside.Grouping.{has_bytes, is_group_word}
use Rattle.pw_transcript.proofs.group_names.is_group.Given as goal

-- no name is empty if none of the remaining ones is
abbrev pub invariant-loop-name : goal.invariant-loop-name
invariant-loop-name l = is_group_word l.fn.word ≡ list_all has_bytes l.names

abbrev pub decreases-loop-name : goal.decreases-loop-name
decreases-loop-name l = length l.names
