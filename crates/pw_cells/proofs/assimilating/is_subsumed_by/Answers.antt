use Rattle.std.proofs.Common.{◌≡◌, ◌+◌, List, [], ◌∷◌, ◌++◌, take, refl, sym, ◌∙◌, ap, subst, arith}
use Rattle.std.specs.Prelude.{All}
use Rattle.std.proofs.lemmas.List.{take_all, take_more}
use Rattle.std.proofs.lemmas.List.Elements.{All-contains, All-nil, All-push}
use Rattle.pw_kinds.proofs.Order.{not_both}
use Rattle.pw_info.specs.Information.{kind_of}
use Rattle.pw_facts.specs.declared.fact.Fact.{Fact}
use Rattle.pw_facts.specs.Facts.{Subsumes}
use Rattle.pw_cells.proofs.assimilating.is_subsumed_by.Goals as goal

pub returns-then-subsumes : goal.returns-then-subsumes
returns-then-subsumes g c = (
  λ _. (c.held-item.result, (c.loop-held.held-index, c.loop-held-test.true, sym c.held-item.is), c.subsumes.ensures.answer.0 c.if-subsumes.true),
  λ _. refl,
)

pub returns : goal.returns
returns g c =
    let none : All (λ f. Subsumes f c.args.fact.now → ⊥) c.args.facts.now =
    subst (All (λ f. Subsumes f c.args.fact.now → ⊥)) (take_all c.loop-held.held-index c.args.facts.now c.loop-held-test.false) c.loop-held.invariant in
    (λ e. absurd (cc), λ known. absurd (All-contains (λ f. Subsumes f c.args.fact.now → ⊥) c.args.facts.now known.0 none known.1 known.2))

pub loop-held-init : goal.loop-held-init
loop-held-init g c = All-nil (λ f. Subsumes f c.args.fact.now → ⊥)

pub offset_bounds-facts-held-index : goal.offset_bounds-facts-held-index
offset_bounds-facts-held-index g c = omega (arith, c.loop-held-test.true)

pub bounds-facts-held-index : goal.bounds-facts-held-index
bounds-facts-held-index g c = c.loop-held-test.true

pub subsumes-requires : goal.subsumes-requires
subsumes-requires g c =
    ap (λ (f : Fact). kind_of f.info) c.held-item.is ∙ c.requires c.loop-held.held-index c.held-item.result c.loop-held-test.true

pub loop-held-smaller : goal.loop-held-smaller
loop-held-smaller g c = omega (arith, c.loop-held-test.true)

pub loop-held-preserved : goal.loop-held-preserved
loop-held-preserved g c =
    let facts = c.args.facts.now in
    let i = c.loop-held.held-index in
    let held = c.held-item.result in
    let longer : take (i + 1) facts ≡ take i facts ++ held ∷ [] =
    take_more facts i held c.loop-held-test.true ∙ ap (λ f. take i facts ++ f ∷ []) (sym c.held-item.is) in
    subst (All (λ f. Subsumes f c.args.fact.now → ⊥)) (sym {A = List Fact} longer)
    (All-push (λ f. Subsumes f c.args.fact.now → ⊥) (take i facts) held c.loop-held.invariant
    (λ more. not_both _ (c.subsumes.ensures.answer.1 more) c.if-subsumes.false))
