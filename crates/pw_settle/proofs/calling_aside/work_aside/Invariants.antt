use Rattle.std.proofs.Common.{◌+◌, ◌≤◌}
use Rattle.pw_network.specs.Wiring.{wiring}
use Rattle.pw_settle.specs.Calls.{tally}
use Rattle.pw_settle.specs.inside.Aside.{IsFurtherAside, weight_of}
use Rattle.pw_settle.proofs.calling_aside.work_aside.Given as goal

abbrev pub invariant-loop-number : goal.invariant-loop-number
invariant-loop-number g l = record {
  further : IsFurtherAside (wiring l.network) l.store l.worldview l.fn.known.infos.items l.fn.known.supports l.known.infos.items l.known.supports l.agenda;
  least : tally l.fn.agenda ≤ l.calls + tally l.agenda;
  most : l.calls + (tally l.agenda + weight_of (wiring l.network) l.worldview l.known.infos.items)
      ≤ tally l.fn.agenda + weight_of (wiring l.network) l.worldview l.fn.known.infos.items;
}

abbrev pub decreases-loop-number : goal.decreases-loop-number
decreases-loop-number g l = tally l.agenda + weight_of (wiring l.network) l.worldview l.known.infos.items
