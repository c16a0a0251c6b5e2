use Rattle.std.proofs.Common.{◌≡◌, ◌+◌, ◌≤◌, All, length, map, take, vec_capacity, vec_len}
use Rattle.pw_network.specs.inside.Held.{attachment}
use Rattle.pw_settle.specs.Calls.{is_instance_visible}
use Rattle.pw_settle.proofs.SeenLines.{IsFlagged}
use Rattle.pw_settle.proofs.settling.seen.Given as goal

abbrev pub invariant-loop-instance : goal.invariant-loop-instance
invariant-loop-instance g l = record {
  items : l.visible.items ≡ map (is_instance_visible l.worldview) (map attachment (take l.instance-index l.instances));
  room : vec_len l.visible + length l.instances ≤ vec_capacity l.visible + l.instance-index;
  flag : All (IsFlagged l.worldview l.line l.is_visible) (map attachment l.instances);
}
