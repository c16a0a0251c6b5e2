-- Where no fact comes in, nothing more is shown.
use Rattle.std.proofs.Common.{◌≡◌, ℕ, ◌+◌, ◌<◌, ◌≤◌, ◌&&◌, ◌++◌, Bool, List, [], ◌∷◌, true, false, not, length, take, drop, get_or}
use Rattle.std.proofs.Common.{inl, inr, refl, sym, ◌∙◌, ap, ap₂, subst, true≢false, add-one, take-suc, take_all, take-append-drop}
use Rattle.std.specs.Prelude.{fold, All}
use Rattle.std.specs.List.{list_any}
use Rattle.std.specs.FinSet.{is_subset}
use Rattle.std.proofs.lemmas.Bool.{cases_Bool}
use Rattle.std.proofs.lemmas.List.Elements.{All-head, All-tail, All-push, All-append, All-filter}
use Rattle.pw_info.specs.declared.kind.Kind.{Kind}
use Rattle.pw_info.specs.declared.info.Info.{Info}
use Rattle.pw_info.specs.Information.{kind_of, meet, nothing, Implies}
use Rattle.pw_info.proofs.Informations.{kind-meet, implies_nothing}
use Rattle.pw_premises.specs.Premises.{Premises}
use Rattle.pw_facts.specs.declared.fact.Fact.{Fact}
use Rattle.pw_facts.specs.Facts.{shows}
use Rattle.pw_facts.proofs.Shown.{shows-supported, shows-unsupported, kind-shows, implies_same}
use Rattle.pw_cells.specs.Cells.{shown_by, does_subsume, assimilated, all_assimilated, unsubsumed}
use Rattle.pw_cells.specs.inside.OneCell.{AreShownBefore}
use Rattle.pw_cells.proofs.Closest.{meet_mono}
use Rattle.pw_cells.proofs.Late.{assimilated_known, assimilated_news}

-- a fact that was visible before, if it is visible, showed as much before
shows_before : (before w : Premises) (f : Fact) → (is_subset f.support w ≡ true → is_subset f.support before ≡ true) → Implies (shows before f) (shows w f)
shows_before before w f seen = elim (cases_Bool (is_subset f.support w)) [
  | inl e ↦ implies_same _ _ (shows-supported before f (seen e) ∙ sym (shows-supported w f e))
  | inr e ↦ subst (Implies (shows before f)) (sym (shows-unsupported w f e)) (implies_nothing (shows before f) (kind_of f.info) (kind-shows before f))
]

abbrev with_shown : Premises → Info → Fact → Info
with_shown w i f = meet i (shows w f)

fold_before : (before w : Premises) (i j : Info) (fs : List Fact) → kind_of i ≡ kind_of j → Implies i j → AreShownBefore before w fs
    → Implies (fold (with_shown before) i fs) (fold (with_shown w) j fs)
fold_before before w i j [] k implies seen = implies
fold_before before w i j (f ∷ fs) k implies seen =
    let one = All-head (λ (x : Fact). is_subset x.support w ≡ true → is_subset x.support before ≡ true) f fs seen in
    fold_before before w (meet i (shows before f)) (meet j (shows w f)) fs (kind-meet i (shows before f) ∙ k ∙ sym (kind-meet j (shows w f)))
    (meet_mono i j (shows before f) (shows w f) k implies (shows_before before w f one))
    (All-tail (λ (x : Fact). is_subset x.support w ≡ true → is_subset x.support before ≡ true) f fs seen)

-- and so do facts together
pub shown_before : (k : Kind) (before w : Premises) (fs : List Fact) → AreShownBefore before w fs → Implies (shown_by k before fs) (shown_by k w fs)
shown_before k before w fs seen = fold_before before w (nothing k) (nothing k) fs refl (λ v h. h) seen

-- ---- gone over one after another, or some at a time

abbrev is_shown_before : Premises → Premises → Fact → Type 0
is_shown_before before w f = is_subset f.support w ≡ true → is_subset f.support before ≡ true

pub not_coming_in : (visible visible_before : Bool) → (visible && not visible_before) ≡ false → visible ≡ true → visible_before ≡ true
not_coming_in visible true none is = refl
not_coming_in true false none is = absurd (true≢false none)
not_coming_in false false none is = absurd (true≢false (sym is))

pub shown_before_next : (before w : Premises) (fs : List Fact) (n : ℕ) (f : Fact) → n < length fs → f ≡ get_or fs n f → AreShownBefore before w (take n fs)
    → is_shown_before before w f → AreShownBefore before w (take (n + 1) fs)
shown_before_next before w fs n f below is all one =
    subst (λ (l : List Fact). AreShownBefore before w l) (sym {A = List Fact} (ap (λ (k : ℕ). take k fs) (add-one n) ∙ take-suc fs n f below ∙ ap (λ (x : Fact). take n fs ++ x ∷ []) (sym is)))
    (All-push (is_shown_before before w) (take n fs) f all one)

pub all_shown_before : (before w : Premises) (fs : List Fact) (n : ℕ) → length fs ≤ n → AreShownBefore before w (take n fs) → AreShownBefore before w fs
all_shown_before before w fs n most all = subst (λ (l : List Fact). AreShownBefore before w l) (take_all n fs most) all

pub shown_before_together : (before w : Premises) (first last fs : List Fact) (n : ℕ) → first ≡ take n fs → last ≡ drop n fs → AreShownBefore before w first
    → AreShownBefore before w last → AreShownBefore before w fs
shown_before_together before w first last fs n is_first is_last all rest =
    subst (λ (l : List Fact). AreShownBefore before w l) (ap₂ (λ (l m : List Fact). l ++ m) is_first is_last ∙ take-append-drop n fs)
    (All-append (is_shown_before before w) first last all rest)

-- ---- what holds of the kept and the late facts holds of each that is kept in the end

all_with : (P : Fact → Type 0) (xs : List Fact) (f : Fact) → All P xs → P f → All P (assimilated xs f)
all_with P xs f all is = elim (cases_Bool (list_any (λ x. does_subsume x f) xs)) [
  | inl e ↦ subst (All P) (sym {A = List Fact} (assimilated_known f xs e)) all
  | inr e ↦ subst (All P) (sym {A = List Fact} (assimilated_news f xs e)) (All-push P (unsubsumed f xs) f (All-filter (λ x. not (does_subsume f x)) P xs all) is)
]

pub all_in_the_end : (P : Fact → Type 0) (xs ys : List Fact) → All P xs → All P ys → All P (all_assimilated xs ys)
all_in_the_end P xs [] kept late = kept
all_in_the_end P xs (y ∷ ys) kept late =
    all_in_the_end P (assimilated xs y) ys (all_with P xs y kept (All-head P y ys late)) (All-tail P y ys late)
