use Rattle.std.proofs.Common.{◌≡◌, ◌+◌, ◌≤◌, All, length, map, take, vec_capacity, vec_len}
use Rattle.pw_network.specs.Wiring.{wiring}
use Rattle.pw_settle.specs.Calls.{is_instance_visible}
use Rattle.pw_settle.proofs.AsideGrowth.{AreNewTo}
use Rattle.pw_settle.proofs.SeenLines.{IsFlagged}
use Rattle.pw_settle.proofs.growing_aside.seen_anew.Given as goal

abbrev pub invariant-loop-number : goal.invariant-loop-number
invariant-loop-number g l = record {
  items : l.visible.items ≡ map (is_instance_visible l.worldview) (take l.number (wiring l.network).attached);
  room : vec_len l.visible + length (wiring l.network).attached ≤ vec_capacity l.visible + l.number;
  new : AreNewTo (wiring l.network) l.earlier l.worldview l.number l.agenda;
  flag : All (IsFlagged l.worldview l.line l.is_visible) (wiring l.network).attached;
  was_flag : All (IsFlagged l.earlier l.line l.was_visible) (wiring l.network).attached;
}
