use Rattle.std.proofs.Common.{map}
use Rattle.pw_network.specs.Wiring.{wiring}
use Rattle.pw_settle.specs.Calls.{is_instance_visible}
use Rattle.pw_settle.proofs.NewlyQueued.{AreLaterTo}
use Rattle.pw_settle.proofs.resettling_since.queue_new_instances.Given as goal

abbrev pub invariant-loop-number : goal.invariant-loop-number
invariant-loop-number g l = record {
  later : AreLaterTo (map (is_instance_visible l.worldview) (wiring l.network).attached) l.first l.number l.agenda;
}
