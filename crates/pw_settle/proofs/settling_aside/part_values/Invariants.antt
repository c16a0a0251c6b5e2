use Rattle.std.proofs.Common.{◌≡◌}
use Rattle.pw_network.specs.Wiring.{wiring}
use Rattle.pw_settle.proofs.AsideStarts.{IsPutTo}
use Rattle.pw_settle.proofs.settling_aside.part_values.Given as goal

abbrev pub invariant-loop-cell : goal.invariant-loop-cell
invariant-loop-cell g l = record {
  same : l.store ≡ l.fn.store;
  put : IsPutTo (wiring l.network) l.fn.store l.worldview l.before l.cell l.known.infos.items l.known.supports;
}
