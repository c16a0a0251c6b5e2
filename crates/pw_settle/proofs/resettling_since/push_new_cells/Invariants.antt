use Rattle.std.proofs.Common.{◌≡◌, ◌≤◌, length}
use Rattle.pw_settle.specs.inside.Since.{AreReadTo, BeginsWith}
use Rattle.pw_settle.proofs.resettling_since.push_new_cells.Given as goal

abbrev pub invariant-loop-cell : goal.invariant-loop-cell
invariant-loop-cell g l = record {
  same : l.store ≡ l.fn.store;
  least : length l.fn.known.infos.items ≤ l.cell;
  read : AreReadTo l.fn.store l.worldview l.cell l.fn.known.infos.items l.known.infos.items l.fn.known.supports l.known.supports;
  infos : BeginsWith l.fn.known.infos.items l.known.infos.items;
  supports : BeginsWith l.fn.known.supports l.known.supports;
}
