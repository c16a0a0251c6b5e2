use Rattle.std.proofs.Common.{length-set, subst, ap, arith}
use Rattle.std.specs.Prelude.{IfSome}
use Rattle.pw_cells.specs.Cells.{Cell, fact_on, told_of}
use Rattle.pw_cells.specs.Shown.{IsKeptOf}
use Rattle.pw_cells.proofs.RightAnswers.{slots_told_the_same}
use Rattle.pw_cells.proofs.Stores.{there, cell_read, same_store}
use Rattle.pw_cells.proofs.cell_store.CellStore.kept_narrow.Goals as goal

pub invariant_of-self : goal.invariant_of-self
invariant_of-self g c =
    let within = there _ _ _ c.self.view_is c.requires in (
      omega (arith, c.self.invariant.0, length-set c.self.inside.cells.items c.args.cell c.kept_narrow.new.self),
      slots_told_the_same _ _ _ _ _ c.index_mut.ensures.value within
          (λ w. ap (λ (cell : Cell). told_of cell w) c.kept_narrow.ensures.same) c.self.invariant.1,
    )

pub returns-clause-unchanged : goal.returns-clause-unchanged
returns-clause-unchanged g c = same_store _ _ _ _ _ c.index_mut.ensures.value c.self.view_is c.kept_narrow.ensures.same

pub returns-clause-kept : goal.returns-clause-kept
returns-clause-kept g c =
    subst (λ (cell : Cell). IfSome c.kept_narrow.result (λ fact. IsKeptOf cell c.args.worldview.now (fact_on fact.info fact.support)))
    (cell_read _ _ _ _ c.index_mut.ensures.value c.self.view_is c.requires) c.kept_narrow.ensures.kept

pub index_mut-requires : goal.index_mut-requires
index_mut-requires g c = omega (arith, there _ _ _ c.self.view_is c.requires)
