use Rattle.std.proofs.Common.{◌≡◌, length, take}
use Rattle.pw_procs.specs.inside.Shapes.{most_arguments}
use Rattle.pw_decl.specs.Compound.{kinds_at}
use Rattle.pw_decl.proofs.declaration.Declaration.accepts_at.Given as goal

-- the kinds at the places so far are recorded
abbrev pub invariant-loop-number : goal.invariant-loop-number
invariant-loop-number g l = record {
  room : length l.given ≡ most_arguments;
  so_far : take l.number l.given ≡ kinds_at l.kinds (take l.number l.places);
}
