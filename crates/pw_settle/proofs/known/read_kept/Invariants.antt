use Rattle.std.proofs.Common.{◌≡◌}
use Rattle.pw_settle.proofs.KeptLemmas.{IsReadTo}
use Rattle.pw_settle.proofs.known.read_kept.Given as goal

abbrev pub invariant-loop-cell : goal.invariant-loop-cell
invariant-loop-cell g l = record {
  same : l.store ≡ l.fn.store;
  read : IsReadTo l.fn.store l.worldview l.cell l.infos.items l.supports;
}
