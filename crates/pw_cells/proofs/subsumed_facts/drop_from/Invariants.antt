use Rattle.std.proofs.Common.{◌≡◌, ◌≤◌, ◌-◌, length, vec_len, vec_capacity}
use Rattle.pw_cells.proofs.Rests.{AreSifted}
use Rattle.pw_cells.proofs.subsumed_facts.drop_from.Given as goal

abbrev pub invariant-loop-place : goal.invariant-loop-place
invariant-loop-place g l = record {
  sifted : AreSifted l.fact l.initial.kept.items l.kept.items l.place;
  len : vec_len l.kept ≤ vec_len l.initial.kept;
  capacity : vec_capacity l.kept ≡ vec_capacity l.initial.kept;
}

abbrev pub decreases-loop-place : goal.decreases-loop-place
decreases-loop-place g l = length l.kept.items - l.place
