use Rattle.std.proofs.Common.{◌≡◌, length, take, drop, map}
use Rattle.pw_cells.specs.inside.OneCell.{after_tell}
use Rattle.pw_cells.proofs.recalled.take_into_each.Given as goal

abbrev pub invariant-loop-place : goal.invariant-loop-place
invariant-loop-place g l = record {
  done : take l.place l.answers ≡ map (after_tell l.cell l.fact) (take l.place l.fn.answers);
  ahead : drop l.place l.answers ≡ drop l.place l.fn.answers;
  long : length l.answers ≡ length l.fn.answers;
}
