use Rattle.std.proofs.Common.{ℕ, ◌<◌}
use Rattle.pw_info.specs.Information.{IsContradiction}
use Rattle.pw_settle.specs.Settled.{info_at}
use Rattle.pw_reasons.proofs.trying.contradictory_cell.Given as goal

-- no cell so far is contradictory
abbrev pub invariant-loop-cell : goal.invariant-loop-cell
invariant-loop-cell g l = (cell : ℕ) → cell < l.cell → IsContradiction (info_at l.settled.infos cell) → ⊥
