use Rattle.std.proofs.Common.{◌≡◌, ◌+◌, ◌≤◌, ◌++◌, take, map, length, vec_len, vec_capacity}
use Rattle.pw_cells.specs.Cells.{new_cell}
use Rattle.pw_cells.proofs.cell_store.append_cells.Given as goal

abbrev pub invariant-loop-kind : goal.invariant-loop-kind
invariant-loop-kind g l = record {
  items : l.cells.items ≡ l.fn.cells.items ++ map new_cell (take l.kind-index l.kinds);
  room : vec_len l.cells + length l.kinds ≤ vec_capacity l.cells + l.kind-index;
}
