use Rattle.std.proofs.Common.{◌+◌, drop, take, slice_index_or, []}
use Rattle.std.specs.List.{flat_map}
use Rattle.pw_reasons.specs.Combinations.{groups_of}
use Rattle.pw_reasons.specs.inside.Alike.{HasMore, beside}
use Rattle.pw_reasons.proofs.alike.note_with_each_of.Given as goal

-- those of the premises so far are noted
abbrev pub invariant-loop-index : goal.invariant-loop-index
invariant-loop-index g l = HasMore l.fn.nogoods l.nogoods
    (flat_map (beside l.fn.fixed (drop (l.fn.place + 1) (groups_of l.fn.groups))) (take l.index (slice_index_or (groups_of l.fn.groups) l.fn.place [])))
