-- What is true of the facts of a cell stays true when one more is told or kept, and when the late
-- facts are assimilated.
use Rattle.std.proofs.Common.{◌≡◌, true, false, List, [], ◌∷◌, ◌++◌, if◌then◌else◌, Bool, refl, sym, ◌∙◌, ap, subst}
use Rattle.std.proofs.lemmas.List.Elements.{All-nil, All-push}
use Rattle.pw_info.specs.declared.kind.Kind.{Kind}
use Rattle.pw_info.specs.declared.info.Info.{Info}
use Rattle.pw_info.specs.Information.{kind_of, meet, Implies}
use Rattle.pw_facts.specs.declared.fact.Fact.{Fact}
use Rattle.pw_facts.specs.Facts.{shows}
use Rattle.pw_cells.specs.Cells.{Cell, shown_by, kept_of, IsSubsumedBy}
use Rattle.pw_cells.specs.Cells.{assimilated, all_assimilated}
use Rattle.pw_cells.specs.Changes.{GainsFact, Assimilates}
use Rattle.pw_cells.specs.inside.OneCell.{AreOfKind, IsCellWhole, ShowsMore}
use Rattle.pw_cells.proofs.Together.{kind_together, meet_first, meet_keeps}
use Rattle.pw_cells.proofs.Late.{IsAssimilation, assimilation, any_subsumes, assimilated_known, late_kinds_apart, late_push, subsumed_late}

-- what is kept of a whole cell after one more fact of its kind is assimilated
pub kept_more : (k : Kind) (f : Fact) (told kept late : List Fact) → kind_of f.info ≡ k → IsCellWhole k told kept late
    → IsAssimilation k f (all_assimilated kept late) (assimilated (all_assimilated kept late) f)
kept_more k f told kept late is whole =
    let both = late_kinds_apart k kept late whole.kept_kinds whole.late_kinds whole.apart in
    assimilation k f (all_assimilated kept late) is both.0 both.1

-- the facts kept of a cell gain a fact of its kind, and assimilate it
pub record KeepsMore (f : Fact) (old : Cell) (k : Kind) (new : List Fact) : Type 0 where
  pub gains : GainsFact f (kept_of old) (λ w. shown_by k w new)
  pub assimilates : Assimilates f old.kept new

pub keeps_more : (old : Cell) (k : Kind) (f : Fact) (told kept late new : List Fact)
    → record { kind = k; told = told; kept = all_assimilated kept late } ≡ old → kind_of f.info ≡ k → IsCellWhole k told kept late
    → new ≡ assimilated (all_assimilated kept late) f → KeepsMore f old k new
keeps_more old k f told kept late new view is whole after =
    let more = kept_more k f told kept late is whole in
    subst (λ (cell : Cell). KeepsMore f cell k new) view (subst (KeepsMore f (record { kind = k; told = told; kept = all_assimilated kept late }) k) (sym {A = List Fact} after)
    (record { gains = more.shown; assimilates = more.assimilates }))

-- a fact that is added to those that are late is assimilated in the end, and so is one that
-- something late subsumes
pub late_more : (k : Kind) (f : Fact) (told kept late : List Fact) (known : Bool) → kind_of f.info ≡ k → IsCellWhole k told kept late
    → (known ≡ true → IsSubsumedBy late f)
    → all_assimilated kept (if known then late else late ++ f ∷ []) ≡ assimilated (all_assimilated kept late) f
late_more k f told kept late true is whole by =
    let both = late_kinds_apart k kept late whole.kept_kinds whole.late_kinds whole.apart in
    sym (assimilated_known f (all_assimilated kept late)
    (any_subsumes k f (all_assimilated kept late) is both.0 (subsumed_late k f kept late whole.kept_kinds whole.late_kinds whole.apart (by refl))))
late_more k f told kept late false is whole by = late_push kept late f

late_kinds_more : (k : Kind) (f : Fact) (late : List Fact) (known : Bool) → kind_of f.info ≡ k → AreOfKind k late → AreOfKind k (if known then late else late ++ f ∷ [])
late_kinds_more k f late true is kinds = kinds
late_kinds_more k f late false is kinds = All-push (λ x. kind_of x.info ≡ k) late f kinds is

pub whole_told : (k : Kind) (f : Fact) (told kept late told' : List Fact) (known : Bool)
    → kind_of f.info ≡ k → IsCellWhole k told kept late → (known ≡ true → IsSubsumedBy late f)
    → AreOfKind (kind_of f.info) told' → ShowsMore f told told'
    → IsCellWhole k told' kept (if known then late else late ++ f ∷ [])
whole_told k f told kept late told' known is whole by told_kinds more_told = record {
  told_kinds = subst (λ (x : Kind). AreOfKind x told') is told_kinds;
  kept_kinds = whole.kept_kinds;
  late_kinds = late_kinds_more k f late known is whole.late_kinds;
  says = λ w.
      let view = all_assimilated kept late in
      let more : shown_by k w told' ≡ meet (shown_by k w told) (shows w f) = subst (λ (x : Kind). shown_by x w told' ≡ meet (shown_by x w told) (shows w f)) is (more_told w) in
      let after : shown_by k w (all_assimilated kept (if known then late else late ++ f ∷ [])) ≡ meet (shown_by k w view) (shows w f) =
      ap (shown_by k w) (late_more k f told kept late known is whole by) ∙ (kept_more k f told kept late is whole).shown w in
      subst (λ (i : Info). Implies i (shown_by k w told')) (sym after)
      (subst (λ (i : Info). Implies (meet (shown_by k w view) (shows w f)) i) (sym more)
      (meet_keeps (shown_by k w view) (shown_by k w told) (shows w f) (kind_together k w view f is) (kind_together k w told f is) (whole.says w)));
  apart = whole.apart;
}

-- after what is late is assimilated
pub whole_caught_up : (k : Kind) (told kept late : List Fact) → IsCellWhole k told kept late
    → IsCellWhole k told (all_assimilated kept late) []
whole_caught_up k told kept late whole =
    let both = late_kinds_apart k kept late whole.kept_kinds whole.late_kinds whole.apart in
    record {
      told_kinds = whole.told_kinds;
      kept_kinds = both.0;
      late_kinds = All-nil (λ x. kind_of x.info ≡ k);
      says = whole.says;
      apart = both.1;
    }

pub whole_kept : (k : Kind) (f : Fact) (told kept : List Fact) → kind_of f.info ≡ k → IsCellWhole k told kept []
    → IsCellWhole k told (assimilated kept f) []
whole_kept k f told kept is whole =
    let one = kept_more k f told kept [] is whole in
    record {
      told_kinds = whole.told_kinds;
      kept_kinds = one.kinds;
      late_kinds = whole.late_kinds;
      says = λ w.
          subst (λ (i : Info). Implies i (shown_by k w told)) (sym (one.shown w))
          (λ v h. whole.says w v (meet_first (shown_by k w kept) (shows w f) (kind_together k w kept f is) v h));
      apart = one.apart;
    }
