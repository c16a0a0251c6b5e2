use Rattle.std.proofs.Common.{◌≡◌, take}
use Rattle.pw_cells.specs.inside.OneCell.{facts_held}
use Rattle.pw_cells.proofs.facts_by_support.FactsBySupport.widened.Given as goal

abbrev pub invariant-loop-place : goal.invariant-loop-place
invariant-loop-place g l = facts_held (λ s. s) l.wide.entries ≡ take l.place l.self
