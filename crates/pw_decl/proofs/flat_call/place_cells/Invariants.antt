use Rattle.std.proofs.Common.{◌≡◌, ◌+◌, length, take, map}
use Rattle.pw_procs.specs.inside.Shapes.{most_arguments}
use Rattle.pw_decl.specs.Expansion.{at_place}
use Rattle.pw_decl.proofs.flat_call.place_cells.Given as goal

-- the cells at the places so far are recorded
abbrev pub invariant-loop-number : goal.invariant-loop-number
invariant-loop-number l = record {
  room : length l.placed ≡ most_arguments;
  so_far : take l.number l.placed ≡ map (at_place l.cells (λ j. l.first + j)) (take l.number l.places);
}
