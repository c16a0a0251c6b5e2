use Rattle.std.proofs.Common.{◌∙◌, ap, arith}
use Rattle.std.proofs.lemmas.List.{get_or_default}
use Rattle.pw_info.specs.declared.kind.Kind.TheVariants as kinds
use Rattle.pw_info.specs.Information.{kind_of}
use Rattle.pw_cells.specs.Cells.{Cell, Store, new_cell, told_of, told_in}
use Rattle.pw_cells.proofs.RightAnswers.{kind_told}
use Rattle.pw_cells.proofs.Stores.{there, cell_read}
use Rattle.pw_cells.proofs.cell_store.CellStore.recall_much.Goals as goal

pub returns-in-Some-clause-kind : goal.returns-in-Some-clause-kind
returns-in-Some-clause-kind g c =
    ap kind_of (c.in-Some.ensures c.self.inside.cells.items c.self.invariant.1 ∙ ap (λ (s : Store). told_in s c.args.cell c.args.worldview.now) c.self.view_is)
    ∙ kind_told c.args.self.now c.args.cell c.args.worldview.now

pub invariant_of-self : goal.invariant_of-self
invariant_of-self g c =
    let within = there _ c.args.self.now c.args.cell c.self.view_is c.requires in (
      c.self.invariant.0,
      c.remember.ensures c.self.inside.cells.items c.self.invariant.1 (
        within,
        c.told-info.ensures.value
            ∙ ap (λ (z : Cell). told_of z c.args.worldview.now) (c.index.ensures ∙ get_or_default c.self.inside.cells.items c.args.cell c.index.result.now (new_cell kinds.Interval) within),
      ),
    )

pub returns-in-Some-clause-value : goal.returns-in-Some-clause-value
returns-in-Some-clause-value g c =
    c.in-Some.ensures c.self.inside.cells.items c.self.invariant.1 ∙ ap (λ (s : Store). told_in s c.args.cell c.args.worldview.now) c.self.view_is

pub index-requires : goal.index-requires
index-requires g c = omega (arith, there _ _ _ c.self.view_is c.requires)

pub returns-clause-value : goal.returns-clause-value
returns-clause-value g c =
    c.told-info.ensures.value
    ∙ ap (λ (cell : Cell). told_of cell c.args.worldview.now) (cell_read _ _ _ _ c.index.ensures c.self.view_is c.requires)

pub returns-clause-kind : goal.returns-clause-kind
returns-clause-kind g c =
    c.told-info.ensures.kind ∙ ap (λ (cell : Cell). cell.kind) (cell_read _ _ _ _ c.index.ensures c.self.view_is c.requires)

pub returns-clause-unchanged : goal.returns-clause-unchanged
returns-clause-unchanged g c = c.self.view_is
