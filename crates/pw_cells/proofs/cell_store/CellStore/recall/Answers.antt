use Rattle.std.proofs.Common.{◌∙◌, ap, arith}
use Rattle.pw_cells.specs.Cells.{Cell, told_of}
use Rattle.pw_cells.proofs.Stores.{there, cell_read}
use Rattle.pw_cells.proofs.cell_store.CellStore.recall.Goals as goal

pub index-requires : goal.index-requires
index-requires g c = omega (arith, there _ _ _ c.self.view_is c.requires)

pub index-requires-then-is_told_little : goal.index-requires-then-is_told_little
index-requires-then-is_told_little g c = omega (arith, there _ _ _ c.self.view_is c.requires)

pub returns-then-is_told_little-clause-value : goal.returns-then-is_told_little-clause-value
returns-then-is_told_little-clause-value g c =
    c.told.ensures.value
    ∙ ap (λ (cell : Cell). told_of cell c.args.worldview.now) (cell_read _ _ _ _ c.index-then-is_told_little.ensures c.self.view_is c.requires)

pub returns-then-is_told_little-clause-kind : goal.returns-then-is_told_little-clause-kind
returns-then-is_told_little-clause-kind g c =
    c.told.ensures.kind ∙ ap (λ (cell : Cell). cell.kind) (cell_read _ _ _ _ c.index-then-is_told_little.ensures c.self.view_is c.requires)

pub recall_much-requires : goal.recall_much-requires
recall_much-requires g c = c.requires

pub returns-clause-value : goal.returns-clause-value
returns-clause-value g c = c.recall_much.ensures.value

pub returns-clause-kind : goal.returns-clause-kind
returns-clause-kind g c = c.recall_much.ensures.kind

pub returns-clause-unchanged : goal.returns-clause-unchanged
returns-clause-unchanged g c = c.recall_much.ensures.unchanged
