use Rattle.std.proofs.Common.{◌≡◌, ◌+◌, ◌∷◌, ◌++◌, [], false, get_or, take, sym, ◌∙◌, ap}
use Rattle.std.proofs.lemmas.List.{get_or_default, take_more}
use Rattle.pw_kinds.proofs.Order.{not_both}
use Rattle.pw_info.specs.Information.{kind_of}
use Rattle.pw_facts.specs.declared.fact.Fact.{Fact}
use Rattle.pw_cells.specs.Cells.{does_subsume, unsubsumed}
use Rattle.pw_cells.proofs.Late.{subsume_test, unsubsumed_test}
use Rattle.pw_cells.proofs.Rests.{unsubsumed_stays}
use Rattle.pw_cells.proofs.subsumed_facts.first_subsumed.Goals as goal

pub returns-then-subsumes-clause-at : goal.returns-then-subsumes-clause-at
returns-then-subsumes-clause-at g c = λ below f.
    let fact = c.args.fact.now in
    let held : Fact = c.index-facts-place.result in
    let facts = c.args.facts.now in
    let place = c.loop-place.place in
    let is : held ≡ get_or facts place held = c.index-facts-place.is in
    let one : kind_of fact.info ≡ kind_of held.info = sym (ap (λ (y : Fact). kind_of y.info) is ∙ c.requires place held below) in
    ap (λ (y : Fact). does_subsume fact y) (get_or_default facts place f held below ∙ sym is)
    ∙ subsume_test fact held one (c.subsumes.ensures.answer.0 c.if-subsumes.true)

pub loop-place-preserved : goal.loop-place-preserved
loop-place-preserved g c =
    let fact = c.args.fact.now in
    let held : Fact = c.index-facts-place.result in
    let facts = c.args.facts.now in
    let place = c.loop-place.place in
    let is : held ≡ get_or facts place held = c.index-facts-place.is in
    let one : kind_of fact.info ≡ kind_of held.info = sym (ap (λ (y : Fact). kind_of y.info) is ∙ c.requires place held c.loop-place-test.true) in
    let other : does_subsume fact held ≡ false =
    unsubsumed_test fact held one (λ subsumed. not_both _ (c.subsumes.ensures.answer.1 subsumed) c.if-subsumes.false) in
    let longer : take (place + 1) facts ≡ take place facts ++ held ∷ [] =
    take_more facts place held c.loop-place-test.true ∙ ap (λ (y : Fact). take place facts ++ y ∷ []) (sym is) in
    longer ∙ unsubsumed_stays fact held (take place facts) (take place facts) c.loop-place.invariant other ∙ ap (unsubsumed fact) (sym longer)
