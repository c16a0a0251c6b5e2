use Rattle.std.proofs.Common.{List, ℕ, ap, subst, arith, ◌∙◌}
use Rattle.std.specs.Borrow.{Bor}
use Rattle.pw_decl.specs.inside.Fields.{declared}
use Rattle.pw_explain.specs.Near.{IsNearest}
use Rattle.pw_explain.proofs.NearestNames.{all_kept, offered_next}
use Rattle.pw_explain.proofs.command.nearest_cell.Goals as goal

pub loop-cell-init : goal.loop-cell-init
loop-cell-init g c = (ap (λ (word : Bor (List ℕ)). word.now) c.to-nearest.ensures.word, c.to-nearest.ensures.none)

pub loop-cell-preserved : goal.loop-cell-preserved
loop-cell-preserved g c = (
  ap (λ (word : Bor (List ℕ)). word.now) c.offer.ensures.word ∙ c.loop-cell.invariant.0,
  offered_next (declared c.args.declaration.now).cells c.loop-cell.cell _ _ c.loop-cell.nearest c.offer.new.self
      c.cell_name.ensures.name c.as_bytes.ensures.value c.offer.ensures.nearest c.loop-cell.invariant.1,
)

pub returns : goal.returns
returns g c = subst (λ (word : List ℕ). IsNearest word (declared c.args.declaration.now).cells c.name.result) c.loop-cell.invariant.0
    (c.name.ensures (declared c.args.declaration.now).cells
    (all_kept c.loop-cell.nearest (declared c.args.declaration.now).cells c.loop-cell.cell
    (omega (arith, c.cells-cell-end.ensures.count, c.loop-cell-test.false, c.loop-cell.auto.cell-end)) c.loop-cell.invariant.1))
