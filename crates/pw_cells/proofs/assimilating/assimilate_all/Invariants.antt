use Rattle.std.proofs.Common.{◌≡◌, ◌+◌, ◌≤◌, length, take, vec_len, vec_capacity}
use Rattle.pw_cells.specs.Cells.{all_assimilated}
use Rattle.pw_cells.specs.inside.OneCell.{Bounds}
use Rattle.pw_cells.specs.inside.OneCell.{AreOfKind, current}
use Rattle.pw_cells.proofs.assimilating.assimilate_all.Given as goal

abbrev pub invariant-loop-fact : goal.invariant-loop-fact
invariant-loop-fact g l = record {
  kept : current l.kept.items ≡ all_assimilated (current l.fn.kept.items) (take l.fact-index l.fn.late.items);
  kinds : AreOfKind l.fn.kind l.kept.items;
  bounds : Bounds l.fn.kind l.kept.items l.bound;
  room : vec_len l.kept + length l.fn.late.items ≤ vec_capacity l.kept + l.fact-index;
}
