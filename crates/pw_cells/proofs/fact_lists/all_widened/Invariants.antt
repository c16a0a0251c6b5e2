use Rattle.std.proofs.Common.{◌≡◌, ◌≤◌, take, vec_capacity}
use Rattle.pw_cells.proofs.fact_lists.all_widened.Given as goal

abbrev pub invariant-loop-held : goal.invariant-loop-held
invariant-loop-held g l = record {
  items : l.wide.items ≡ take l.held-index l.facts;
  room : l.fn.room ≤ vec_capacity l.wide;
}
