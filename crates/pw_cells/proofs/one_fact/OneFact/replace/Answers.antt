use Rattle.std.proofs.Common.{◌≡◌, ◌∷◌, [], refl, sym, ◌∙◌, ap, subst}
use Rattle.pw_info.specs.declared.info.Info.{Info}
use Rattle.pw_info.specs.declared.kind.Kind.{Kind}
use Rattle.pw_info.specs.declared.kind.Kind.TheVariants as kinds
use Rattle.pw_info.specs.Information.{kind_of}
use Rattle.pw_facts.specs.declared.fact.Fact.{Fact}
use Rattle.pw_cells.specs.Cells.{Cell, IsSubsumedBy, IsUnsaid, kept_of, shown_by}
use Rattle.pw_cells.specs.inside.OneCell.{AreOfKind}
use Rattle.pw_cells.proofs.Late.{subsume_test}
use Rattle.pw_cells.proofs.One.{kind_of_one, one_whole, takes_place}
use Rattle.pw_cells.proofs.Together.{unsaid_unsubsumed}
use Rattle.pw_cells.proofs.Tells.{KeepsMore, keeps_more}
use Rattle.pw_cells.proofs.one_fact.OneFact.replace.Given as given
use Rattle.pw_cells.proofs.one_fact.OneFact.replace.Goals as goal
use Rattle.pw_cells.proofs.one_fact.OneFact.replace.Goals.{After-self-then-is_subsumed-1}

pub subsumes-is_subsumed-requires : goal.subsumes-is_subsumed-requires
subsumes-is_subsumed-requires g c = c.requires.kind ∙ sym (ap (λ (cell : Cell). cell.kind) c.self.view_is) ∙ sym (kind_of_one _ _ c.self.invariant.kept_kinds)

-- the fact is of the kind of the one kept
of_kind : (g : given.Over) (c : After-self-then-is_subsumed-1 g) → kind_of c.args.fact.now.info ≡ kinds.Interval
of_kind g c = c.requires.kind ∙ sym (ap (λ (cell : Cell). cell.kind) c.self.view_is)

-- the one kept does not subsume it
is_new : (g : given.Over) (c : After-self-then-is_subsumed-1 g) → IsSubsumedBy (c.self.inside.kept ∷ []) c.args.fact.now → ⊥
is_new g c =
    unsaid_unsubsumed (kind_of c.args.fact.now.info) (c.self.inside.kept ∷ []) c.args.fact.now
    (subst (λ (k : Kind). AreOfKind k (c.self.inside.kept ∷ [])) (sym (of_kind g c)) c.self.invariant.kept_kinds) refl
    (subst (λ (i : Info). IsUnsaid i c.args.fact.now.info) (sym {A = Info} shown) c.requires.news)
  where
    shown : shown_by (kind_of c.args.fact.now.info) c.args.fact.now.support (c.self.inside.kept ∷ []) ≡ kept_of c.args.self.now c.args.fact.now.support
    shown i = shown_by (c.requires.kind i) c.args.fact.now.support (ap (λ (cell : Cell). cell.kept) c.self.view_is i)

kept_then : (g : given.Over) (c : After-self-then-is_subsumed-1 g) → KeepsMore c.args.fact.now c.args.self.now kinds.Interval (c.args.fact.now ∷ [])
kept_then g c =
    let f = c.args.fact.now in
    let one : Fact = c.self.inside.kept in
    let same : kind_of f.info ≡ kind_of one.info = of_kind g c ∙ sym (kind_of_one _ _ c.self.invariant.kept_kinds) in
    keeps_more _ _ _ [] (one ∷ []) [] _ c.self.view_is (of_kind g c) c.self.invariant
    (takes_place _ f one (of_kind g c) c.self.invariant.kept_kinds (is_new g c) (subsume_test f one same (c.subsumes-is_subsumed.ensures.answer.0 c.if-is_subsumed.true)))

pub invariant_of-self : goal.invariant_of-self
invariant_of-self g c = one_whole _ _ (of_kind g (goal.at.invariant_of-self g c).After-self-then-is_subsumed-1)

pub returns-then-is_subsumed-clause-kept : goal.returns-then-is_subsumed-clause-kept
returns-then-is_subsumed-clause-kept g c = λ _. record {
  kept = (kept_then g c).gains;
  assimilates = (kept_then g c).assimilates;
  told = ap (λ (cell : Cell). cell.told) c.self.view_is;
  kind = ap (λ (cell : Cell). cell.kind) c.self.view_is;
}
