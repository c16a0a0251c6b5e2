use Rattle.std.proofs.Common.{◌≡◌, false, get_or, sym, ◌∙◌, ap}
use Rattle.std.proofs.lemmas.List.Folds.{list_any_at}
use Rattle.pw_kinds.proofs.Order.{not_both}
use Rattle.pw_info.specs.Information.{kind_of}
use Rattle.pw_facts.specs.declared.fact.Fact.{Fact}
use Rattle.pw_cells.specs.Cells.{does_subsume}
use Rattle.pw_cells.specs.inside.OneCell.{outdoes}
use Rattle.pw_cells.proofs.Current.{both_not}
use Rattle.pw_cells.proofs.Late.{subsume_test, unsubsumed_test}
use Rattle.pw_cells.proofs.subsumed_facts.is_outdone.Goals as goal

pub returns-then-not-subsumes : goal.returns-then-not-subsumes
returns-then-not-subsumes g c = λ _.
    let fact = c.args.fact.now in
    let held : Fact = c.held-item.result in
    let later = c.args.later.now in
    let place = c.loop-held.held-index in
    let is : held ≡ get_or later place held = c.held-item.is in
    let one : kind_of held.info ≡ kind_of fact.info = ap (λ (y : Fact). kind_of y.info) is ∙ c.requires place held c.loop-held-test.true in
    let less : does_subsume fact held ≡ false =
    unsubsumed_test fact held (sym one) (λ back. not_both _ (c.subsumes-then-subsumes.ensures.answer.1 back) c.if-not-subsumes.true) in
    list_any_at (λ f. outdoes f fact) later place held c.loop-held-test.true
    (ap (λ (y : Fact). outdoes y fact) (sym is)
    ∙ both_not (does_subsume held fact) (does_subsume fact held) (subsume_test held fact one (c.subsumes.ensures.answer.0 c.if-subsumes.true)) less)

pub subsumes-requires : goal.subsumes-requires
subsumes-requires g c =
    ap (λ (y : Fact). kind_of y.info) c.held-item.is ∙ c.requires c.loop-held.held-index c.held-item.result c.loop-held-test.true

pub subsumes-requires-then-subsumes : goal.subsumes-requires-then-subsumes
subsumes-requires-then-subsumes g c =
    sym (ap (λ (y : Fact). kind_of y.info) c.held-item.is ∙ c.requires c.loop-held.held-index c.held-item.result c.loop-held-test.true)
