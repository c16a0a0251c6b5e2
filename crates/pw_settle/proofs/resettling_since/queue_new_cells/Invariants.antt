use Rattle.std.proofs.Common.{◌≤◌, length, map, take}
use Rattle.pw_settle.specs.Calls.{is_instance_visible}
use Rattle.pw_network.specs.Wiring.{wiring}
use Rattle.pw_settle.specs.inside.Queueing.{QueuesReaders}
use Rattle.pw_settle.proofs.NewInstances.{IsChangedBelow}
use Rattle.pw_settle.proofs.resettling_since.queue_new_cells.Given as goal

abbrev pub invariant-loop-cell : goal.invariant-loop-cell
invariant-loop-cell g l = record {
  queues : QueuesReaders (wiring l.network) (map (is_instance_visible l.worldview) (wiring l.network).attached)
      (IsChangedBelow (wiring l.network) (map (is_instance_visible l.worldview) (wiring l.network).attached) l.fn.agenda (take l.first l.now) l.now l.cell) l.fn.agenda l.agenda;
  least : l.first ≤ l.cell;
  most : l.cell ≤ length l.now;
}
