use Rattle.std.proofs.Common.{◌+◌, ◌≤◌}
use Rattle.pw_network.specs.Wiring.{wiring}
use Rattle.pw_settle.specs.Calls.{tally}
use Rattle.pw_settle.specs.Growth.{KeepsMore}
use Rattle.pw_settle.specs.inside.Known.{StayUpstream}
use Rattle.pw_settle.specs.inside.Progress.{IsIdle, IsUnderway, weight}
use Rattle.pw_settle.proofs.settling.work.Given as goal

abbrev pub invariant-loop-more : goal.invariant-loop-more
invariant-loop-more g l = record {
  grows : KeepsMore (wiring l.network) l.fn.store l.store;
  upstream : StayUpstream (wiring l.network) l.fn.store l.fn.known.supports l.store l.known.supports;
  underway : IsUnderway (wiring l.network) l.store l.worldview l.known.infos.items l.known.supports l.agenda;
  idle : IsIdle l.fn.agenda → IsIdle l.agenda;
  least : tally l.fn.agenda ≤ l.calls + tally l.agenda;
  most : l.calls + (tally l.agenda + weight (wiring l.network) l.store l.worldview)
      ≤ tally l.fn.agenda + weight (wiring l.network) l.fn.store l.worldview;
}

abbrev pub decreases-loop-more : goal.decreases-loop-more
decreases-loop-more g l = tally l.agenda + weight (wiring l.network) l.store l.worldview
