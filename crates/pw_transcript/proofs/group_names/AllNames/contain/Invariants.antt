use Rattle.std.proofs.Common.{◌≡◌, length}
use Rattle.std.specs.List.{list_any}
use Rattle.std.specs.Str.{bytes_eq}
use Rattle.pw_transcript.proofs.group_names.AllNames.contain.Given as goal

-- it is one of the names if it is one of the remaining ones
abbrev pub invariant-loop-other : goal.invariant-loop-other
invariant-loop-other l = list_any (bytes_eq l.fn.name) l.fn.self ≡ list_any (bytes_eq l.name) l.self

abbrev pub decreases-loop-other : goal.decreases-loop-other
decreases-loop-other l = length l.self
