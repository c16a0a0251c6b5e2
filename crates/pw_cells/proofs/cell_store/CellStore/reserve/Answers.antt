use Rattle.std.proofs.Common.{◌∙◌, ap}
use Rattle.pw_cells.specs.Cells.{Store}
use Rattle.pw_cells.proofs.Continuing.{continues_same}
use Rattle.pw_cells.proofs.cell_store.CellStore.reserve.Goals as goal

pub returns-clause-continues : goal.returns-clause-continues
returns-clause-continues g c =
    continues_same c.args.self.now _ (c.reserve.ensures.items ∙ ap (λ (s : Store). s.cells) c.self.view_is) (ap (λ (s : Store). s.arrivals) c.self.view_is)
