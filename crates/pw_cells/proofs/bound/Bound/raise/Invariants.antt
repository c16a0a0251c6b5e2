use Rattle.std.proofs.Common.{◌-◌, length}
use Rattle.pw_info.specs.Information.{kind_of}
use Rattle.pw_cells.specs.inside.OneCell.{Bounds}
use Rattle.pw_cells.proofs.bound.Bound.raise.Given as goal

abbrev pub invariant-loop-self : goal.invariant-loop-self
invariant-loop-self g l = Bounds (kind_of l.initial.self.info) l.facts l.self

abbrev pub decreases-loop-self : goal.decreases-loop-self
decreases-loop-self g l = length l.facts - l.self.count
