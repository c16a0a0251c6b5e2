use Rattle.std.proofs.Common.{◌≡◌, ◌≤◌, ◌++◌, length, take, drop, vec_capacity}
use Rattle.pw_cells.specs.inside.OneCell.{AreOfKind, current}
use Rattle.pw_cells.proofs.subsumed_facts.drop_outdone.Given as goal

abbrev pub invariant-loop-left : goal.invariant-loop-left
invariant-loop-left g l = record {
  same : current (take l.left l.kept.items ++ drop l.first l.kept.items) ≡ current l.initial.kept.items;
  ahead : l.left ≤ l.first;
  within : l.first ≤ length l.kept.items;
  kinds : AreOfKind l.fn.kind l.kept.items;
  len : length l.kept.items ≡ length l.initial.kept.items;
  capacity : vec_capacity l.kept ≡ vec_capacity l.initial.kept;
}

abbrev pub decreases-loop-left : goal.decreases-loop-left
decreases-loop-left g l = l.left
