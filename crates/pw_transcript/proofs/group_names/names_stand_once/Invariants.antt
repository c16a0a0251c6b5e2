use Rattle.std.proofs.Common.{◌≡◌, length}
use Rattle.pw_transcript.specs.inside.Grouping.{all_names, stand_once}
use Rattle.pw_transcript.proofs.group_names.names_stand_once.Given as goal

-- no name stands twice if none of the remaining ones does
abbrev pub invariant-loop-name : goal.invariant-loop-name
invariant-loop-name l = stand_once (all_names l.fn.words) ≡ stand_once l.names

abbrev pub decreases-loop-name : goal.decreases-loop-name
decreases-loop-name l = length l.names
