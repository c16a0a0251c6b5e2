use Rattle.std.proofs.Common.{refl, ap, ◌∙◌, ◌++◌, List, ℕ}
use Rattle.pw_explain.proofs.DroppedLines.{part_is}
use Rattle.pw_explain.proofs.unread.faulty_part.Goals as goal

pub returns-clause-some : goal.returns-clause-some
returns-clause-some c =
    let cut = c.in_ok-cut.ensures.some in
    part_is c.args.text.now c.in_ok-cut.cut.before.now c.in_ok-cut.cut.line.now c.in_ok-cut.cut.after.now c.rest.result.now c.args.line _ cut.before
    (cut.is ∙ ap (λ (rest : List ℕ). c.in_ok-cut.cut.before.now ++ rest) cut.from_line.is) (λ none. cut.from_line.some (cut.from_line.is ∙ none)) c.rest.ensures refl
