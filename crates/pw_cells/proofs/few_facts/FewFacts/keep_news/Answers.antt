use Rattle.std.proofs.Common.{◌≡◌, List, [], ◌∷◌, ◌++◌, refl, sym, ◌∙◌, ap, subst, arith}
use Rattle.pw_info.specs.Information.{kind_of}
use Rattle.pw_info.specs.declared.kind.Kind.{Kind}
use Rattle.pw_info.specs.declared.info.Info.{Info}
use Rattle.pw_facts.specs.declared.fact.Fact.{Fact}
use Rattle.pw_cells.specs.Cells.{Cell, IsSubsumedBy, IsUnsaid, assimilated, kept_of, shown_by, unsubsumed}
use Rattle.pw_cells.specs.inside.OneCell.{AreOfKind, IsCellWhole}
use Rattle.pw_cells.proofs.Stores.{OnErr_always}
use Rattle.pw_cells.proofs.Together.{unsaid_unsubsumed}
use Rattle.pw_cells.proofs.Late.{assimilated_news, none_subsume}
use Rattle.pw_cells.proofs.Tells.{KeepsMore, keeps_more, whole_kept}
use Rattle.pw_cells.proofs.few_facts.FewFacts.keep_news.Given as given
use Rattle.pw_cells.proofs.few_facts.FewFacts.keep_news.Goals as goal

-- the fact is of the kind of the facts inside
of_kind : (g : given.Over) (c : goal.After-append g) → kind_of c.args.fact.now.info ≡ c.self.inside.kind
of_kind g c = c.requires.kind ∙ sym (ap (λ (cell : Cell). cell.kind) c.self.view_is)

-- no kept fact subsumes it
is_new : (g : given.Over) (c : goal.After-append g) → IsSubsumedBy c.self.inside.kept.items c.args.fact.now → ⊥
is_new g c =
    unsaid_unsubsumed (kind_of c.args.fact.now.info) c.self.inside.kept.items c.args.fact.now
    (subst (λ (k : Kind). AreOfKind k c.self.inside.kept.items) (sym (of_kind g c)) c.self.invariant.0.kept_kinds) refl
    (subst (λ (i : Info). IsUnsaid i c.args.fact.now.info) (sym {A = Info} shown) c.requires.news)
  where
    shown : shown_by (kind_of c.args.fact.now.info) c.args.fact.now.support c.self.inside.kept.items ≡ kept_of c.args.self.now c.args.fact.now.support
    shown i = shown_by (c.requires.kind i) c.args.fact.now.support (ap (λ (cell : Cell). cell.kept) c.self.view_is i)

-- what is kept afterwards
kept_is : (g : given.Over) (c : goal.After-append g) → c.append.new.facts.items ≡ assimilated c.self.inside.kept.items c.args.fact.now
kept_is g c =
    let f = c.args.fact.now in
    let kept : List Fact = c.self.inside.kept.items in
    c.append.ensures.items
    ∙ ap (λ (l : List Fact). l ++ f ∷ []) (c.drop_subsumed.ensures.rest ∙ ap (λ (l : List Fact). unsubsumed f l) c.reserve_unless.ensures.items)
    ∙ sym (assimilated_news f kept (none_subsume c.self.inside.kind f kept (of_kind g c) c.self.invariant.0.kept_kinds (is_new g c)))

kept_then : (g : given.Over) (c : goal.After-append g) → KeepsMore c.args.fact.now c.args.self.now c.self.inside.kind c.append.new.facts.items
kept_then g c = keeps_more _ _ _ [] c.self.inside.kept.items [] _ c.self.view_is (of_kind g c) c.self.invariant.0 (kept_is g c)

pub invariant_of-self-2 : goal.invariant_of-self-2
invariant_of-self-2 g c = (
  subst (λ (l : List Fact). IsCellWhole c.self.inside.kind [] l []) (sym {A = List Fact} (kept_is g c))
      (whole_kept _ _ [] c.self.inside.kept.items (of_kind g c) c.self.invariant.0),
  c.self.invariant.1,
)

pub returns-clause-kept : goal.returns-clause-kept
returns-clause-kept g c = record {
  kept = (kept_then g c).gains;
  assimilates = (kept_then g c).assimilates;
  told = ap (λ (cell : Cell). cell.told) c.self.view_is;
  kind = ap (λ (cell : Cell). cell.kind) c.self.view_is;
}

pub drop_subsumed-requires : goal.drop_subsumed-requires
drop_subsumed-requires g c =
    let is : kind_of c.args.fact.now.info ≡ c.self.inside.kind = c.requires.kind ∙ sym (ap (λ (cell : Cell). cell.kind) c.self.view_is) in
    subst (AreOfKind (kind_of c.args.fact.now.info)) (sym {A = List Fact} c.reserve_unless.ensures.items)
    (subst (λ (k : Kind). AreOfKind k c.self.inside.kept.items) (sym {A = Kind} is) c.self.invariant.0.kept_kinds)

pub append-requires : goal.append-requires
append-requires g c = omega (arith, c.in_ok-reserve_unless.ensures.room refl, c.drop_subsumed.ensures.len, c.drop_subsumed.ensures.capacity)

pub invariant_of-self : goal.invariant_of-self
invariant_of-self g c = (
  subst (λ (l : List Fact). IsCellWhole c.self.inside.kind [] l []) (sym {A = List Fact} c.reserve_unless.ensures.items) c.self.invariant.0,
  c.self.invariant.1,
)

pub returns-in_err-reserve_unless-clause-err : goal.returns-in_err-reserve_unless-clause-err
returns-in_err-reserve_unless-clause-err g c =
    OnErr_always c.from_residual.result
    (ap (λ (l : List Fact). record { kind = c.self.inside.kind; told = []; kept = l }) c.reserve_unless.ensures.items ∙ c.self.view_is)
