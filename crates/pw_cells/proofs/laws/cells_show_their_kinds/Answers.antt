use Rattle.pw_cells.specs.Cells.{cell_at}
use Rattle.pw_cells.proofs.Together.{kind-shown_by}
use Rattle.pw_cells.proofs.Stores.{kind-listed}
use Rattle.pw_cells.proofs.laws.cells_show_their_kinds.Goals as goal

pub returns : goal.returns
returns c = record {
  told = λ s n w. kind-shown_by (cell_at s n).kind w (cell_at s n).told;
  kept = λ s n w. kind-shown_by (cell_at s n).kind w (cell_at s n).kept;
  listed = λ s n. kind-listed s.cells n;
}
