use Rattle.std.proofs.Common.{◌≡◌}
use Rattle.std.specs.List.{range_with_len}
use Rattle.pw_decl.proofs.flattening.first_places.Given as goal

-- the places so far are recorded
abbrev pub invariant-loop-place : goal.invariant-loop-place
invariant-loop-place g l = l.places.items ≡ range_with_len 0 l.place
