use Rattle.std.proofs.Common.{◌≡◌, length, map}
use Rattle.pw_network.specs.Wiring.{wiring}
use Rattle.pw_settle.specs.Calls.{is_instance_visible}
use Rattle.pw_settle.specs.inside.Since.{QueuesChanged}
use Rattle.pw_settle.proofs.ReadAgain.{AreReadAgain}
use Rattle.pw_settle.proofs.resettling_since.read_all_again.Given as goal

abbrev pub invariant-loop-cell : goal.invariant-loop-cell
invariant-loop-cell g l = record {
  same : l.store ≡ l.fn.store;
  again : AreReadAgain l.fn.store l.worldview l.fn.known.infos.items l.fn.known.supports l.cell l.known.infos.items l.known.supports;
  flags : length l.agenda ≡ length l.fn.agenda;
  queued : QueuesChanged (wiring l.network) (map (is_instance_visible l.worldview) (wiring l.network).attached) l.fn.known.infos.items l.known.infos.items l.fn.agenda
      l.agenda;
}
