use Rattle.std.proofs.Common.{◌≡◌, List, not, sym, ◌∙◌, ap, subst, arith}
use Rattle.std.specs.Prelude.{◌↔◌, IsTrue}
use Rattle.std.proofs.lemmas.Bool.{not-false}
use Rattle.pw_info.specs.Information.{kind_of}
use Rattle.pw_facts.specs.declared.fact.Fact.{Fact}
use Rattle.pw_cells.specs.Cells.{assimilated, all_assimilated}
use Rattle.pw_cells.specs.inside.OneCell.{Bounds}
use Rattle.pw_cells.specs.Cells.{Cell, IsSubsumedBy}
use Rattle.pw_cells.specs.inside.OneCell.{AreOfKind, current}
use Rattle.pw_cells.proofs.Current.{subsumed_by_current, subsumed_by_some}
use Rattle.pw_cells.proofs.Late.{any_subsumes, assimilated_known}
use Rattle.pw_cells.proofs.Stores.{OnErr_always}
use Rattle.pw_cells.proofs.Tells.{KeepsMore, keeps_more, whole_caught_up, whole_kept}
use Rattle.pw_cells.proofs.fact_lists.FactLists.keep.Given as given
use Rattle.pw_cells.proofs.fact_lists.FactLists.keep.Goals as goal
use Rattle.pw_cells.proofs.fact_lists.FactLists.keep.Goals.{After-assimilate_late}

-- once the late facts are assimilated, the fact is of the kind of those kept, and the bound is one
-- of theirs
caught_up : (g : given.Over) (c : After-assimilate_late g) → AreOfKind (kind_of c.args.fact.now.info) c.assimilate_late.new.kept.items
    × Bounds (kind_of c.args.fact.now.info) c.assimilate_late.new.kept.items c.assimilate_late.new.bound
caught_up g c =
    let is : kind_of c.args.fact.now.info ≡ c.self.inside.kind = c.requires ∙ sym (ap (λ (cell : Cell). cell.kind) c.self.view_is) in
    subst (λ (k : _). AreOfKind k c.assimilate_late.new.kept.items × Bounds k c.assimilate_late.new.kept.items c.assimilate_late.new.bound) (sym is)
    (c.assimilate_late.ensures.kinds, c.assimilate_late.ensures.bounds)

pub is_subsumed-known-requires-clause-kinds : goal.is_subsumed-known-requires-clause-kinds
is_subsumed-known-requires-clause-kinds g c =
    rw c.as_slice.ensures.value (caught_up g (goal.at.is_subsumed-known-requires-clause-kinds g c).After-assimilate_late).0

pub is_subsumed-known-requires-clause-bounds : goal.is_subsumed-known-requires-clause-bounds
is_subsumed-known-requires-clause-bounds g c =
    rw c.as_slice.ensures.value (caught_up g (goal.at.is_subsumed-known-requires-clause-bounds g c).After-assimilate_late).1

pub invariant_of-self : goal.invariant_of-self
invariant_of-self g c = (
  rw (c.reserve_unless.ensures.items, c.assimilate_late.ensures.kept, c.assimilate_late.ensures.late) (whole_caught_up _ _ _ _ c.self.invariant.0),
  omega (arith, c.assimilate_late.ensures.none, c.reserve_unless.new.facts.ok),
  subst (λ (l : List Fact). Bounds c.self.inside.kind l c.assimilate_late.new.bound) (sym {A = List Fact} c.reserve_unless.ensures.items) c.assimilate_late.ensures.bounds,
  c.self.invariant.3,
  subst (AreOfKind c.self.inside.kind) (sym {A = List Fact} c.reserve_unless.ensures.items) c.assimilate_late.ensures.kinds,
)

pub assimilate-requires-clause-kinds : goal.assimilate-requires-clause-kinds
assimilate-requires-clause-kinds g c =
    rw c.reserve_unless.ensures.items (caught_up g (goal.at.assimilate-requires-clause-kinds g c).After-assimilate_late).0

pub assimilate-requires-clause-bounds : goal.assimilate-requires-clause-bounds
assimilate-requires-clause-bounds g c =
    rw c.reserve_unless.ensures.items (caught_up g (goal.at.assimilate-requires-clause-bounds g c).After-assimilate_late).1

pub assimilate-requires-clause-known : goal.assimilate-requires-clause-known
assimilate-requires-clause-known g c =
    subst (λ (l : List Fact). IsTrue c.is_subsumed-known.result ↔ IsSubsumedBy l c.args.fact.now) (c.as_slice.ensures.value ∙ sym c.reserve_unless.ensures.items) c.is_subsumed-known.ensures

-- the fact is of the kind of the facts inside
of_kind : (g : given.Over) (c : goal.After-assimilate g) → kind_of c.args.fact.now.info ≡ c.self.inside.kind
of_kind g c = c.requires ∙ sym (ap (λ (cell : Cell). cell.kind) c.self.view_is)

pub invariant_of-self-2 : goal.invariant_of-self-2
invariant_of-self-2 g c = (
  rw (c.assimilate.ensures.assimilated, c.reserve_unless.ensures.items, c.assimilate_late.ensures.kept, c.assimilate_late.ensures.late) (whole_kept _ _ _ _ (of_kind g c) (whole_caught_up _ _ _ _ c.self.invariant.0)),
  omega (arith, c.assimilate_late.ensures.none, c.assimilate.new.kept.ok),
  subst (λ (k : _). Bounds k c.assimilate.new.kept.items c.assimilate.new.bound) (of_kind g c) c.assimilate.ensures.bounds,
  c.self.invariant.3,
  subst (λ (k : _). AreOfKind k c.assimilate.new.kept.items) (of_kind g c) c.assimilate.ensures.kinds,
)

pub returns-clause-answer : goal.returns-clause-answer
returns-clause-answer g c =
    let f = c.args.fact.now in
    let kept = c.assimilate_late.new.kept.items in
    let same : c.as_slice.result.now ≡ kept = c.as_slice.ensures.value in
    let view : current kept ≡ c.args.self.now.kept = c.assimilate_late.ensures.kept ∙ ap (λ (cell : Cell). cell.kept) c.self.view_is in (
      λ old. subst (λ (l : List Fact). IsSubsumedBy l f) view
          (subsumed_by_current c.self.inside.kind kept f c.assimilate_late.ensures.kinds
          (subst (λ (l : List Fact). IsSubsumedBy l f) same (c.is_subsumed-known.ensures.0 (not-false c.is_subsumed-known.result old)))),
      λ known. ap not (c.is_subsumed-known.ensures.1 (subst (λ (l : List Fact). IsSubsumedBy l f) (sym same)
          (subsumed_by_some kept f (subst (λ (l : List Fact). IsSubsumedBy l f) (sym view) known)))),
    )

-- what is kept afterwards
kept_is : (g : given.Over) (c : goal.After-assimilate g) → all_assimilated (current c.assimilate.new.kept.items) c.assimilate_late.new.late.items
    ≡ assimilated (all_assimilated (current c.self.inside.kept.items) c.self.inside.late.items) c.args.fact.now
kept_is g c =
    (λ i. all_assimilated (c.assimilate.ensures.assimilated i) (c.assimilate_late.ensures.late i))
    ∙ ap (λ (l : List Fact). assimilated l c.args.fact.now) (ap current c.reserve_unless.ensures.items ∙ c.assimilate_late.ensures.kept)

kept_then : (g : given.Over) (c : goal.After-assimilate g) →
    KeepsMore c.args.fact.now c.args.self.now c.self.inside.kind (all_assimilated (current c.assimilate.new.kept.items) c.assimilate_late.new.late.items)
kept_then g c = keeps_more _ _ _ _ _ _ _ c.self.view_is (of_kind g c) c.self.invariant.0 (kept_is g c)

pub returns-clause-known : goal.returns-clause-known
returns-clause-known g c = λ old.
    let self = c.self.inside in
    let f = c.args.fact.now in
    let view = all_assimilated (current self.kept.items) self.late.items in
    let whole = whole_caught_up _ _ _ _ c.self.invariant.0 in
    let kept = c.assimilate_late.new.kept.items in
    let some : IsSubsumedBy kept f = subst (λ (l : List Fact). IsSubsumedBy l f) c.as_slice.ensures.value (c.is_subsumed-known.ensures.0 (not-false c.is_subsumed-known.result old)) in
    let held : IsSubsumedBy view f = subst (λ (l : List Fact). IsSubsumedBy l f) c.assimilate_late.ensures.kept (subsumed_by_current self.kind kept f c.assimilate_late.ensures.kinds some) in
    ap (λ (l : List Fact). record { kind = self.kind; told = self.told; kept = l })
    (kept_is g c ∙ assimilated_known f view (any_subsumes self.kind f view (of_kind g c) whole.kept_kinds held))
    ∙ c.self.view_is

pub returns-clause-kept : goal.returns-clause-kept
returns-clause-kept g c = record {
  kept = (kept_then g c).gains;
  assimilates = (kept_then g c).assimilates;
  told = ap (λ (cell : Cell). cell.told) c.self.view_is;
  kind = ap (λ (cell : Cell). cell.kind) c.self.view_is;
}

pub assimilate_late-requires-clause-kinds : goal.assimilate_late-requires-clause-kinds
assimilate_late-requires-clause-kinds g c = c.self.invariant.4

pub assimilate_late-requires-clause-late_kinds : goal.assimilate_late-requires-clause-late_kinds
assimilate_late-requires-clause-late_kinds g c = c.self.invariant.0.late_kinds

pub assimilate_late-requires-clause-bounds : goal.assimilate_late-requires-clause-bounds
assimilate_late-requires-clause-bounds g c = c.self.invariant.2

pub assimilate_late-requires-clause-room : goal.assimilate_late-requires-clause-room
assimilate_late-requires-clause-room g c = c.self.invariant.1

pub returns-in_err-reserve_unless-clause-err : goal.returns-in_err-reserve_unless-clause-err
returns-in_err-reserve_unless-clause-err g c =
    OnErr_always c.from_residual.result
    ((λ j. record {
      kind = c.self.inside.kind;
      told = c.self.inside.told;
      kept = all_assimilated ((ap current c.reserve_unless.ensures.items ∙ c.assimilate_late.ensures.kept) j) (c.assimilate_late.ensures.late j);
    }) ∙ c.self.view_is)

pub assimilate-requires-clause-room : goal.assimilate-requires-clause-room
assimilate-requires-clause-room g c = c.in_ok-reserve_unless.ensures.room
