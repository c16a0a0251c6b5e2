use Rattle.std.proofs.Common.{◌≡◌, take}
use Rattle.pw_cells.specs.Cells.{shown_by}
use Rattle.pw_cells.proofs.facts_by_support.FactsBySupport.shown.Given as goal

abbrev pub invariant-loop-place : goal.invariant-loop-place
invariant-loop-place g l = l.info ≡ shown_by l.fn.kind l.worldview (take l.place l.self)
