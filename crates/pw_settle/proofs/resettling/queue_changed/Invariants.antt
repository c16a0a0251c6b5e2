use Rattle.std.proofs.Common.{◌<◌, ◌≤◌, length, map}
use Rattle.pw_settle.specs.Calls.{is_instance_visible}
use Rattle.pw_network.specs.Wiring.{wiring}
use Rattle.pw_settle.specs.inside.Queueing.{HasChanged, QueuesReaders}
use Rattle.pw_settle.proofs.resettling.queue_changed.Given as goal

abbrev pub invariant-loop-cell : goal.invariant-loop-cell
invariant-loop-cell g l = record {
  queues : QueuesReaders (wiring l.network) (map (is_instance_visible l.worldview) (wiring l.network).attached) (λ cell. (cell < l.cell) × HasChanged l.before l.now cell) l.fn.agenda l.agenda;
  most : l.cell ≤ length l.now;
}
