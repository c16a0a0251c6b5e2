use Rattle.std.proofs.Common.{◌≡◌}
use Rattle.pw_network.specs.Wiring.{wiring}
use Rattle.pw_settle.specs.inside.Aside.{AreGrownTo}
use Rattle.pw_settle.proofs.growing_aside.grow_cells.Given as goal

abbrev pub invariant-loop-cell : goal.invariant-loop-cell
invariant-loop-cell g l = record {
  same : l.store ≡ l.fn.store;
  grown : AreGrownTo (wiring l.network) l.fn.store l.earlier l.worldview l.cell l.known.infos.items l.known.supports l.agenda;
}
