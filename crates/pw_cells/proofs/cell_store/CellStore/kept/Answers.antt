use Rattle.std.proofs.Common.{◌≡◌, length-set, subst, ap, arith}
use Rattle.pw_info.specs.Information.{kind_of, Implies}
use Rattle.pw_facts.specs.Facts.{IsLeastAbove, IsMostBelow}
use Rattle.pw_cells.specs.Cells.{Cell, cell_at, told_of, kept_of, ArePremisesOf}
use Rattle.pw_cells.proofs.RightAnswers.{slots_told_the_same}
use Rattle.pw_cells.proofs.Stores.{there, cell_read, same_store}
use Rattle.pw_cells.proofs.cell_store.CellStore.kept.Given as given
use Rattle.pw_cells.proofs.cell_store.CellStore.kept.Goals as goal

pub invariant_of-self : goal.invariant_of-self
invariant_of-self g c =
    let within = there _ _ _ c.self.view_is c.requires in (
      omega (arith, c.self.invariant.0, length-set c.self.inside.cells.items c.args.cell c.kept.new.self),
      slots_told_the_same _ _ _ _ _ c.index_mut.ensures.value within
          (λ w. ap (λ (cell : Cell). told_of cell w) c.kept.ensures.same) c.self.invariant.1,
    )

pub returns-clause-unchanged : goal.returns-clause-unchanged
returns-clause-unchanged g c = same_store _ _ _ _ _ c.index_mut.ensures.value c.self.view_is c.kept.ensures.same

-- the cell that is read
read : (g : given.Over) (c : goal.After-self-1 g) → c.index_mut.result.now ≡ cell_at c.args.self.now c.args.cell
read g c = cell_read _ _ _ _ c.index_mut.ensures.value c.self.view_is c.requires

pub returns-clause-info : goal.returns-clause-info
returns-clause-info g c = subst (λ (cell : Cell). c.kept.result.info ≡ kept_of cell c.args.worldview.now) (read g c) c.kept.ensures.kept.info

pub returns-clause-kind : goal.returns-clause-kind
returns-clause-kind g c = subst (λ (cell : Cell). kind_of c.kept.result.info ≡ cell.kind) (read g c) c.kept.ensures.kept.kind

pub returns-clause-same : goal.returns-clause-same
returns-clause-same g c = subst (λ (cell : Cell). kept_of cell c.kept.result.support ≡ c.kept.result.info) (read g c) c.kept.ensures.kept.same

pub returns-clause-told : goal.returns-clause-told
returns-clause-told g c = subst (λ (cell : Cell). Implies c.kept.result.info (told_of cell c.args.worldview.now)) (read g c) c.kept.ensures.kept.told

pub returns-clause-larger : goal.returns-clause-larger
returns-clause-larger g c = subst (λ (cell : Cell). IsLeastAbove c.kept.result.support (kept_of cell) c.kept.result.info) (read g c) c.kept.ensures.kept.larger

pub returns-clause-smaller : goal.returns-clause-smaller
returns-clause-smaller g c = subst (λ (cell : Cell). IsMostBelow c.args.worldview.now (kept_of cell) c.kept.result.info) (read g c) c.kept.ensures.kept.smaller

pub returns-clause-rests : goal.returns-clause-rests
returns-clause-rests g c = subst (λ (cell : Cell). ArePremisesOf cell.kept c.kept.result.support) (read g c) c.kept.ensures.kept.rests

pub index_mut-requires : goal.index_mut-requires
index_mut-requires g c = omega (arith, there _ _ _ c.self.view_is c.requires)

pub returns-clause-within : goal.returns-clause-within
returns-clause-within g c = c.kept.ensures.kept.within
