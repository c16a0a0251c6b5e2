use Rattle.std.proofs.Common.{◌≡◌, ◌≤◌, vec_capacity, vec_len}
use Rattle.pw_sessions.specs.inside.Steps.{OnlySpares}
use Rattle.pw_sessions.proofs.workbench.snapshots.make_room.Given as goal

abbrev pub invariant-loop : goal.invariant-loop
invariant-loop g l = record {
  spares : OnlySpares l.beliefs l.initial.snapshots.items l.snapshots.items;
  len : vec_len l.snapshots ≤ vec_len l.initial.snapshots;
  capacity : vec_capacity l.snapshots ≡ vec_capacity l.initial.snapshots;
}
