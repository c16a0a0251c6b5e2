use Rattle.pw_cells.specs.Cells.{cell_at}
use Rattle.pw_cells.proofs.Together.{larger_shown}
use Rattle.pw_cells.proofs.laws.larger_worldviews_show_more.Goals as goal

pub returns : goal.returns
returns c = record {
  told = λ s n v w sub. larger_shown (cell_at s n).kind v w (cell_at s n).told sub;
  kept = λ s n v w sub. larger_shown (cell_at s n).kind v w (cell_at s n).kept sub;
}
