use Rattle.std.proofs.Common.{List, Option, sym, ◌∙◌, subst, arith}
use Rattle.std.specs.Prelude.{IfSome}
use Rattle.pw_premises.specs.PremiseSubsets.{same_numbers_equal}
use Rattle.pw_cells.specs.declared.recalled.Recalled.{Recalled}
use Rattle.pw_cells.specs.inside.OneCell.{AreRight}
use Rattle.pw_cells.proofs.RightAnswers.{answer_is}
use Rattle.pw_cells.proofs.recalled.Answers.find.Goals as goal

pub returns-then-eq : goal.returns-then-eq
returns-then-eq c = λ cells right.
    let all : AreRight cells c.in_ok-slots.slots.now = subst (λ (slots : Option (List Recalled)). IfSome slots (AreRight cells)) (sym c.in_ok-slots.ensures.value) right in
    answer_is cells _ c.args.cell c.args.worldview.now (all _ c.index-slots-from.result (omega arith)) c.if-last-cell.true
    ((same_numbers_equal _ c.args.worldview.now).0 (sym c.eq.ensures ∙ c.if-eq.true))
