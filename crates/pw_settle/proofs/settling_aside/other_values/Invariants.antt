use Rattle.std.proofs.Common.{◌≡◌}
use Rattle.pw_network.specs.Wiring.{wiring}
use Rattle.pw_settle.proofs.AsideStarts.{IsFoundTo}
use Rattle.pw_settle.proofs.settling_aside.other_values.Given as goal

abbrev pub invariant-loop-cell : goal.invariant-loop-cell
invariant-loop-cell g l = record {
  same : l.store ≡ l.fn.store;
  found : IsFoundTo (wiring l.network) l.fn.store l.worldview l.cell l.infos.items l.supports;
}
