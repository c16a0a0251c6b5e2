use Rattle.std.proofs.Common.{◌≡◌, length, map, take}
use Rattle.pw_settle.specs.Settled.{info_at}
use Rattle.pw_settle.proofs.propagating.answer_on_many.Given as goal

abbrev pub invariant-loop-place : goal.invariant-loop-place
invariant-loop-place g l = record {
  done : take l.place l.inputs ≡ map (info_at l.known) (take l.place l.cells);
  room : length l.inputs ≡ 8;
}
