use Rattle.std.proofs.Common.{length, map, ◌≡◌, ◌≤◌}
use Rattle.pw_settle.specs.Calls.{is_instance_visible}
use Rattle.pw_network.specs.Wiring.{wiring}
use Rattle.pw_settle.specs.inside.Since.{QueuesChanged, known_at}
use Rattle.pw_settle.proofs.CameSince.{AreTakenIn}
use Rattle.pw_settle.proofs.resettling_since.take_in_arrivals.Given as goal

abbrev pub invariant-loop-left : goal.invariant-loop-left
invariant-loop-left g l = record {
  within : l.left ≤ length l.arrivals;
  taken : AreTakenIn l.store (known_at l.fn.known.infos.items l.fn.known.supports l.worldview l.mark) l.arrivals l.left l.known.infos.items l.known.supports;
  flags : length l.agenda ≡ length l.fn.agenda;
  queued : QueuesChanged (wiring l.network) (map (is_instance_visible l.worldview) (wiring l.network).attached) l.fn.known.infos.items l.known.infos.items l.fn.agenda
      l.agenda;
}

abbrev pub decreases-loop-left : goal.decreases-loop-left
decreases-loop-left g l = l.left
