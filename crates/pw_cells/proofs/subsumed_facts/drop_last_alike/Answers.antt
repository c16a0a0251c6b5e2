use Rattle.std.proofs.Common.{◌≡◌, ◌<◌, true, length, get_or, inr, sym, ◌∙◌, ap, arith}
use Rattle.std.proofs.lemmas.List.{get_or_default}
use Rattle.pw_info.specs.Information.{kind_of}
use Rattle.pw_facts.specs.declared.fact.Fact.{Fact}
use Rattle.pw_cells.specs.Cells.{does_subsume}
use Rattle.pw_cells.proofs.Late.{subsume_test}
use Rattle.pw_cells.proofs.subsumed_facts.drop_last_alike.Goals as goal

pub returns-then-subsumes-clause-left : goal.returns-then-subsumes-clause-left
returns-then-subsumes-clause-left g c =
    let fact = c.args.fact.now in
    let held : Fact = c.index.result.now in
    let kept = c.args.kept.now.items in
    let place = c.last_alike-last.result in
    let below : place < length kept = omega arith in
    let is : held ≡ get_or kept place held = c.index.ensures in
    let one : kind_of fact.info ≡ kind_of held.info = sym (ap (λ (y : Fact). kind_of y.info) is ∙ c.requires place held below) in
    let subsumed : does_subsume fact held ≡ true = subsume_test fact held one (c.subsumes.ensures.answer.0 c.if-subsumes.true) in
    inr (place, below, ap (does_subsume fact) (get_or_default kept place fact held below ∙ sym is) ∙ subsumed, c.remove.ensures.by_index.2)
