use Rattle.std.specs.Prelude.{◌≡◌, take}
use Rattle.pw_decl.specs.inside.Fields.{declared}
use Rattle.pw_explain.specs.inside.Kept.{KeepsNearest}
use Rattle.pw_explain.proofs.command.nearest_cell.Given as goal

-- what is found is the nearest of those so far
abbrev pub invariant-loop-cell : goal.invariant-loop-cell
invariant-loop-cell g l = (l.nearest.word.now ≡ l.word) × KeepsNearest l.nearest (take l.cell (declared l.declaration).cells)
