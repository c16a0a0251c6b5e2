-- The one fact kept of a cell.
use Rattle.std.proofs.Common.{◌≡◌, true, false, not, if◌then◌else◌, Bool, List, [], ◌∷◌, ◌++◌, refl, sym, ◌∙◌, ap, subst, true≢false}
use Rattle.std.proofs.lemmas.List.Elements.{All-nil, All-head, All-contains}
use Rattle.pw_info.specs.declared.kind.Kind.{Kind}
use Rattle.pw_info.specs.Information.{kind_of, Implies}
use Rattle.pw_facts.specs.declared.fact.Fact.{Fact}
use Rattle.pw_info.specs.declared.info.Info.{Info}
use Rattle.pw_premises.specs.Premises.{Premises}
use Rattle.pw_facts.specs.Facts.{IsLeastAbove, IsMostBelow}
use Rattle.pw_cells.specs.Cells.{Cell, IsSubsumedBy, assimilated, does_subsume, kept_of, new_cell, shown_by, unsubsumed}
use Rattle.pw_cells.specs.inside.OneCell.{AreOfKind, IsCellWhole, StandsFor, cell_keeping}
use Rattle.pw_cells.proofs.Late.{assimilated_news, none_subsume}
use Rattle.pw_cells.specs.inside.CellChanges.{KeepsFact}
use Rattle.pw_cells.proofs.Tells.{kept_more, whole_kept}
use Rattle.pw_cells.proofs.Together.{larger_shown}

-- a cell of which nothing is kept
pub empty_whole : (k : Kind) → IsCellWhole k [] [] []
empty_whole k = record {
  told_kinds = All-nil (λ (f : Fact). kind_of f.info ≡ k);
  kept_kinds = All-nil (λ (f : Fact). kind_of f.info ≡ k);
  late_kinds = All-nil (λ (f : Fact). kind_of f.info ≡ k);
  says = λ w v h. h;
  apart = λ f g in_f in_g subsumes. absurd (All-contains (λ (x : Fact). ⊥) [] f (All-nil (λ (x : Fact). ⊥)) in_f);
}

-- and one of which one fact of its kind is kept
pub one_whole : (k : Kind) (f : Fact) → kind_of f.info ≡ k → IsCellWhole k [] (f ∷ []) []
unfolding assimilated
one_whole k f is = whole_kept k f [] [] is (empty_whole k)

-- a cell of which nothing is kept keeps one fact of its kind
pub first_kept : (k : Kind) (f : Fact) → kind_of f.info ≡ k → KeepsFact f (new_cell k) (cell_keeping k (f ∷ []))
unfolding assimilated
first_kept k f is =
    let more = kept_more k f [] [] [] is (empty_whole k) in
    record { kept = more.shown; assimilates = more.assimilates; told = refl; kind = refl }

pub kind_of_one : (k : Kind) (f : Fact) → AreOfKind k (f ∷ []) → kind_of f.info ≡ k
kind_of_one k f kinds = All-head (λ (x : Fact). kind_of x.info ≡ k) f [] kinds

none_left : (f one : Fact) (b : Bool) → does_subsume f one ≡ b → b ≡ true → unsubsumed f (one ∷ []) ≡ []
none_left f one true e is = ap (λ (b : Bool). if not b then one ∷ [] else []) e
none_left f one false e is = absurd (true≢false (sym is))

-- a fact that is not known takes the place of the one that it subsumes
pub takes_place : (k : Kind) (f one : Fact) → kind_of f.info ≡ k → AreOfKind k (one ∷ []) → (IsSubsumedBy (one ∷ []) f → ⊥) → does_subsume f one ≡ true
    → f ∷ [] ≡ assimilated (one ∷ []) f
takes_place k f one is kinds new subsumed =
    sym (ap (λ (l : List Fact). l ++ f ∷ []) (none_left f one true subsumed refl)) ∙ sym (assimilated_news f (one ∷ []) (none_subsume k f (one ∷ []) is kinds new))
