use Rattle.std.proofs.Common.{◌≡◌, true, List, inl, inr, sym, ◌∙◌, ap, subst, arith}
use Rattle.std.proofs.lemmas.Bool.{cases_Bool}
use Rattle.pw_info.specs.Information.{kind_of}
use Rattle.pw_info.specs.declared.kind.Kind.{Kind}
use Rattle.pw_facts.specs.declared.fact.Fact.{Fact}
use Rattle.pw_cells.specs.Cells.{all_assimilated}
use Rattle.pw_cells.specs.inside.OneCell.{Bounds}
use Rattle.pw_facts.specs.Facts.{shows}
use Rattle.pw_info.specs.Information.{meet}
use Rattle.pw_cells.specs.Cells.{Cell, IsSubsumedBy, shown_by, told_of}
use Rattle.pw_cells.specs.inside.OneCell.{AreOfKind, current}
use Rattle.pw_cells.proofs.Stores.{OnErr_always}
use Rattle.pw_cells.proofs.Tells.{KeepsMore, keeps_more, whole_told, late_more}
use Rattle.pw_cells.proofs.fact_lists.FactLists.tell_late.Given as given
use Rattle.pw_cells.proofs.fact_lists.FactLists.tell_late.Goals as goal

pub is_lately_subsumed-known-requires : goal.is_lately_subsumed-known-requires
is_lately_subsumed-known-requires g c =
    let is : kind_of c.args.fact.now.info ≡ c.self.inside.kind = c.requires ∙ sym (ap (λ (cell : Cell). cell.kind) c.self.view_is) in
    subst (λ (l : List Fact). AreOfKind (kind_of c.args.fact.now.info) l) (sym c.as_slice.ensures.value)
    (subst (λ (k : Kind). AreOfKind k c.self.inside.late.items) (sym is) c.self.invariant.0.late_kinds)

-- the fact is of the kind of the facts inside
of_kind : (g : given.Over) (c : goal.After-add_late g) → kind_of c.args.fact.now.info ≡ c.self.inside.kind
of_kind g c = c.requires ∙ sym (ap (λ (cell : Cell). cell.kind) c.self.view_is)

-- if it is known, a late fact subsumes it
by_late : (g : given.Over) (c : goal.After-add_late g) → c.is_lately_subsumed-known.result ≡ true → IsSubsumedBy c.self.inside.late.items c.args.fact.now
by_late g c known = subst (λ (l : List Fact). IsSubsumedBy l c.args.fact.now) c.as_slice.ensures.value (c.is_lately_subsumed-known.ensures known)

pub invariant_of-self-2 : goal.invariant_of-self-2
invariant_of-self-2 g c =
    let self = c.self.inside in
    let known = c.is_lately_subsumed-known.result in
    let whole = whole_told _ _ _ _ _ _ _ (of_kind g c) c.self.invariant.0 (by_late g c) c.in_ok-add.ensures.kinds c.in_ok-add.ensures.shown in (
      rw (c.reserve_late.ensures.kept, c.add_late.ensures.items, c.reserve_late.ensures.late) whole,
      elim (cases_Bool known) [
        | inl e ↦ let same = c.add_late.ensures.known e in omega (arith, same, c.reserve_late.ensures.room)
        | inr e ↦ let more = c.in_ok-reserve_late.ensures.more e in omega (arith, more, c.add_late.ensures.len)
      ],
      subst (λ (l : List Fact). Bounds self.kind l self.bound) (sym {A = List Fact} c.reserve_late.ensures.kept) c.self.invariant.2,
      c.self.invariant.3,
      subst (AreOfKind self.kind) (sym {A = List Fact} c.reserve_late.ensures.kept) c.self.invariant.4,
    )

-- what is kept afterwards
kept_then : (g : given.Over) (c : goal.After-add_late g) →
    KeepsMore c.args.fact.now c.args.self.now c.self.inside.kind (all_assimilated (current c.reserve_late.new.kept.items) c.add_late.new.late.items)
kept_then g c =
    keeps_more _ _ _ _ _ _ _ c.self.view_is (of_kind g c) c.self.invariant.0
    (rw (c.reserve_late.ensures.kept, c.add_late.ensures.items, c.reserve_late.ensures.late)
    (late_more _ _ _ _ _ _ (of_kind g c) c.self.invariant.0 (by_late g c)))

pub reserve_late-requires : goal.reserve_late-requires
reserve_late-requires g c = c.self.invariant.1

pub invariant_of-self : goal.invariant_of-self
invariant_of-self g c = (
  rw (c.reserve_late.ensures.kept, c.reserve_late.ensures.late) c.self.invariant.0,
  c.reserve_late.ensures.room,
  subst (λ (l : List Fact). Bounds c.self.inside.kind l c.self.inside.bound) (sym {A = List Fact} c.reserve_late.ensures.kept) c.self.invariant.2,
  c.self.invariant.3,
  subst (AreOfKind c.self.inside.kind) (sym {A = List Fact} c.reserve_late.ensures.kept) c.self.invariant.4,
)

pub returns-in_err-reserve_late-clause-err : goal.returns-in_err-reserve_late-clause-err
returns-in_err-reserve_late-clause-err g c =
    OnErr_always c.from_residual.result
    ((λ j. record {
      kind = c.self.inside.kind;
      told = c.self.inside.told;
      kept = all_assimilated (current (c.reserve_late.ensures.kept j)) (c.reserve_late.ensures.late j);
    }) ∙ c.self.view_is)

pub add-requires : goal.add-requires
add-requires g c =
    let is : kind_of c.args.fact.now.info ≡ c.self.inside.kind = c.requires ∙ sym (ap (λ (cell : Cell). cell.kind) c.self.view_is) in
    subst (λ (k : Kind). AreOfKind k c.self.inside.told) (sym {A = Kind} is) c.self.invariant.0.told_kinds

pub invariant_of-self-in_err-add : goal.invariant_of-self-in_err-add
invariant_of-self-in_err-add g c = (
  rw (c.in_err-add.ensures.err, c.reserve_late.ensures.kept, c.reserve_late.ensures.late) c.self.invariant.0,
  c.reserve_late.ensures.room,
  subst (λ (l : List Fact). Bounds c.self.inside.kind l c.self.inside.bound) (sym {A = List Fact} c.reserve_late.ensures.kept) c.self.invariant.2,
  c.self.invariant.3,
  subst (AreOfKind c.self.inside.kind) (sym {A = List Fact} c.reserve_late.ensures.kept) c.self.invariant.4,
)

pub returns-in_err-add-clause-err : goal.returns-in_err-add-clause-err
returns-in_err-add-clause-err g c =
    OnErr_always c.from_residual-in_err-add.result
    ((λ j. record {
      kind = c.self.inside.kind;
      told = c.in_err-add.ensures.err j;
      kept = all_assimilated (current (c.reserve_late.ensures.kept j)) (c.reserve_late.ensures.late j);
    }) ∙ c.self.view_is)

pub add_late-requires : goal.add_late-requires
add_late-requires g c = c.in_ok-reserve_late.ensures.late_room

pub returns-clause-told : goal.returns-clause-told
returns-clause-told g c =
    let f = c.args.fact.now in
    record {
      told = λ w.
          subst (λ (cell : Cell). shown_by c.self.inside.kind w c.add.new.self ≡ meet (told_of cell w) (shows w f)) c.self.view_is
          (subst (λ (k : Kind). shown_by k w c.add.new.self ≡ meet (shown_by k w c.self.inside.told) (shows w f)) (of_kind g c) (c.in_ok-add.ensures.shown w));
      kept = (kept_then g c).gains;
      assimilates = (kept_then g c).assimilates;
      kind = ap (λ (cell : Cell). cell.kind) c.self.view_is;
    }
