-- The result of assimilating facts one after another.
use Rattle.std.proofs.Common.{◌≡◌, ◌⊎◌, ℕ, ◌<◌, true, false, not, cond, List, [], ◌∷◌, ◌++◌, inl, inr, sym, ◌∙◌, ap, subst, arith}
use Rattle.std.specs.Prelude.{Contains}
use Rattle.std.specs.List.{list_any}
use Rattle.std.proofs.lemmas.Bool.{cases_Bool, eqb-true, eq-eqb}
use Rattle.std.proofs.lemmas.List.Elements.{All-nil, All-cons, All-head, All-tail, All-weaker, All-contains, Contains-push, Contains-push_cases, Contains-append_cases, Contains-append_left, Contains-append_right}
use Rattle.std.proofs.lemmas.List.Folds.{list_any_at}
use Rattle.std.proofs.lemmas.List.Sums.{fold_push}
use Rattle.pw_kinds.proofs.Order.{both_true, true_both, not_both}
use Rattle.pw_info.specs.declared.kind.Kind.{Kind}
use Rattle.pw_info.specs.Information.{kind_of, meet}
use Rattle.pw_info.specs.Rank.{rank_of}
use Rattle.pw_info.proofs.Informations.{kind-meet, meet_implied, implied_from_meet}
use Rattle.pw_info.proofs.Ranks.{rank_gain}
use Rattle.pw_premises.specs.Premises.{Premises}
use Rattle.pw_facts.specs.declared.fact.Fact.{Fact}
use Rattle.pw_facts.specs.Facts.{shows, Subsumes}
use Rattle.pw_facts.proofs.Shown.{subsumes_trans}
use Rattle.pw_cells.specs.Cells.{shown_by, IsSubsumedBy}
use Rattle.pw_cells.specs.Changes.{Assimilates}
use Rattle.pw_cells.specs.Cells.{does_subsume, unsubsumed, assimilated, all_assimilated}
use Rattle.pw_cells.specs.inside.OneCell.{AreOfKind, AreApart, IsRest}
use Rattle.pw_cells.proofs.Together.{kinds-push, kinds-rest, meet_first, shown-rest, shown_known}
use Rattle.pw_cells.proofs.Wholes.{apart_rest}
use Rattle.pw_cells.proofs.Assimilations.{assimilates_news, assimilates_known}

-- ---- the test of subsumption

not_less : (m n : ℕ) → m ≡ n → m < n → ⊥
not_less m n e l = omega arith

-- it tells whether the first of two facts of one kind subsumes the second
pub subsumes_where : (a b : Fact) → kind_of a.info ≡ kind_of b.info → does_subsume a b ≡ true → Subsumes a b
unfolding does_subsume
subsumes_where a b k e =
    let both = true_both _ _ e in
    let same : meet a.info b.info ≡ a.info = elim (rank_gain (meet a.info b.info) a.info (kind-meet a.info b.info) (meet_first a.info b.info k)) [
      | inl is ↦ is
      | inr less ↦ absurd (not_less _ _ (eqb-true _ _ both.0) less)
    ] in
    (implied_from_meet a.info b.info k same, both.1)

pub subsume_test : (a b : Fact) → kind_of a.info ≡ kind_of b.info → Subsumes a b → does_subsume a b ≡ true
unfolding does_subsume
subsume_test a b k s = both_true _ _ (eq-eqb _ _ (ap rank_of (meet_implied a.info b.info k s.0))) s.1

pub unsubsumed_test : (a b : Fact) → kind_of a.info ≡ kind_of b.info → (Subsumes a b → ⊥) → does_subsume a b ≡ false
unsubsumed_test a b k none = elim (cases_Bool (does_subsume a b)) [
  | inl e ↦ absurd (none (subsumes_where a b k e))
  | inr e ↦ e
]

-- ---- what a fact does not subsume

abbrev Kinds : Kind → Fact → Type 0
Kinds k f = kind_of f.info ≡ k

rest_of_more : (f x : Fact) (xs ys : List Fact) → IsRest f xs ys → (Subsumes f x → ⊥) → IsRest f (x ∷ xs) (x ∷ ys)
rest_of_more f x xs ys is other = record {
  stays =
      All-cons (λ y. Contains (x ∷ ys) y ⊎ Subsumes f y) x xs (inl (Contains-append_left (x ∷ []) ys x (Contains-push [] x)))
      (All-weaker (λ y. Contains ys y ⊎ Subsumes f y) (λ y. Contains (x ∷ ys) y ⊎ Subsumes f y)
      (λ y either. elim either [ inl held ↦ inl (Contains-append_right (x ∷ []) ys y held) | inr subsumed ↦ inr subsumed ]) xs is.stays);
  within =
      All-cons (Contains (x ∷ xs)) x ys (Contains-append_left (x ∷ []) xs x (Contains-push [] x))
      (All-weaker (Contains xs) (Contains (x ∷ xs)) (λ y. Contains-append_right (x ∷ []) xs y) ys is.within);
  gone = All-cons (λ y. Subsumes f y → ⊥) x ys other is.gone;
}

rest_of_same : (f x : Fact) (xs ys : List Fact) → IsRest f xs ys → Subsumes f x → IsRest f (x ∷ xs) ys
rest_of_same f x xs ys is subsumed = record {
  stays = All-cons (λ y. Contains ys y ⊎ Subsumes f y) x xs (inr subsumed) is.stays;
  within = All-weaker (Contains xs) (Contains (x ∷ xs)) (λ y. Contains-append_right (x ∷ []) xs y) ys is.within;
  gone = is.gone;
}

pub rest_unsubsumed : (k : Kind) (f : Fact) (xs : List Fact) → kind_of f.info ≡ k → AreOfKind k xs → IsRest f xs (unsubsumed f xs)
rest_unsubsumed k f [] is kinds = record {
  stays = All-nil (λ y. Contains {X = Fact} [] y ⊎ Subsumes f y);
  within = All-nil (Contains {X = Fact} []);
  gone = All-nil (λ y. Subsumes f y → ⊥);
}
rest_unsubsumed k f (x ∷ xs) is kinds =
    let one : kind_of f.info ≡ kind_of x.info = is ∙ sym (All-head (Kinds k) x xs kinds) in
    let rest : IsRest f xs (unsubsumed f xs) = rest_unsubsumed k f xs is (All-tail (Kinds k) x xs kinds) in
    elim (cases_Bool (does_subsume f x)) [
      | inl e ↦
          subst (IsRest f (x ∷ xs)) (sym (ap (λ b. cond (not b) (x ∷ unsubsumed f xs) (unsubsumed f xs)) e))
          (rest_of_same f x xs (unsubsumed f xs) rest (subsumes_where f x one e))
      | inr e ↦
          subst (IsRest f (x ∷ xs)) (sym (ap (λ b. cond (not b) (x ∷ unsubsumed f xs) (unsubsumed f xs)) e))
          (rest_of_more f x xs (unsubsumed f xs) rest (λ s. not_both _ (subsume_test f x one s) e))
    ]

-- ---- one more fact

-- whether one of the facts subsumes it
pub subsumed_where : (k : Kind) (f : Fact) (xs : List Fact) → kind_of f.info ≡ k → AreOfKind k xs → list_any (λ x. does_subsume x f) xs ≡ true → IsSubsumedBy xs f
subsumed_where k f [] is kinds e = absurd (cc)
subsumed_where k f (x ∷ xs) is kinds e = elim (cases_Bool (does_subsume x f)) [
  | inl test ↦ (x, Contains-append_left (x ∷ []) xs x (Contains-push [] x), subsumes_where x f (All-head (Kinds k) x xs kinds ∙ sym is) test)
  | inr test ↦
      let rest : list_any (λ y. does_subsume y f) xs ≡ true = rw test at e in
      let held : IsSubsumedBy xs f = subsumed_where k f xs is (All-tail (Kinds k) x xs kinds) rest in
      (held.0, Contains-append_right (x ∷ []) xs held.0 held.1, held.2)
]

pub any_subsumes : (k : Kind) (f : Fact) (xs : List Fact) → kind_of f.info ≡ k → AreOfKind k xs → IsSubsumedBy xs f → list_any (λ x. does_subsume x f) xs ≡ true
any_subsumes k f xs is kinds held =
    let one : kind_of held.0.info ≡ kind_of f.info = All-contains (Kinds k) xs held.0 kinds held.1 ∙ sym is in
    list_any_at (λ x. does_subsume x f) xs held.1.0 held.0 held.1.1 (ap (λ x. does_subsume x f) held.1.2 ∙ subsume_test held.0 f one held.2)

pub none_subsume : (k : Kind) (f : Fact) (xs : List Fact) → kind_of f.info ≡ k → AreOfKind k xs → (IsSubsumedBy xs f → ⊥) → list_any (λ x. does_subsume x f) xs ≡ false
none_subsume k f xs is kinds none = elim (cases_Bool (list_any (λ x. does_subsume x f) xs)) [
  | inl e ↦ absurd (none (subsumed_where k f xs is kinds e))
  | inr e ↦ e
]

pub assimilated_known : (f : Fact) (xs : List Fact) → list_any (λ x. does_subsume x f) xs ≡ true → assimilated xs f ≡ xs
unfolding assimilated
assimilated_known f xs e = ap (λ b. cond b xs (unsubsumed f xs ++ f ∷ [])) e

pub assimilated_news : (f : Fact) (xs : List Fact) → list_any (λ x. does_subsume x f) xs ≡ false → assimilated xs f ≡ unsubsumed f xs ++ f ∷ []
unfolding assimilated
assimilated_news f xs e = ap (λ b. cond b xs (unsubsumed f xs ++ f ∷ [])) e

-- what assimilating a fact of their kind leaves of facts that are apart
pub record IsAssimilation (k : Kind) (f : Fact) (old new : List Fact) : Type 0 where
  pub kinds : AreOfKind k new
  pub apart : AreApart new
  pub shown : (w : Premises) → shown_by k w new ≡ meet (shown_by k w old) (shows w f)
  pub assimilates : Assimilates f old new

pub assimilation : (k : Kind) (f : Fact) (xs : List Fact) → kind_of f.info ≡ k → AreOfKind k xs → AreApart xs → IsAssimilation k f xs (assimilated xs f)
assimilation k f xs is kinds apart = elim (cases_Bool (list_any (λ x. does_subsume x f) xs)) [
  | inl e ↦
      let known : IsSubsumedBy xs f = subsumed_where k f xs is kinds e in
      let own : AreOfKind (kind_of f.info) xs = subst (λ (x : Kind). AreOfKind x xs) (sym is) kinds in
      subst (IsAssimilation k f xs) (sym (assimilated_known f xs e)) (record {
        kinds = kinds;
        apart = apart;
        shown = λ w. sym (shown_known k w xs f kinds is known);
        assimilates = assimilates_known f xs own apart known;
      })
  | inr e ↦
      let news : IsSubsumedBy xs f → ⊥ = λ known. not_both _ (any_subsumes k f xs is kinds known) e in
      let rest : IsRest f xs (unsubsumed f xs) = rest_unsubsumed k f xs is kinds in
      subst (IsAssimilation k f xs) (sym (assimilated_news f xs e)) (record {
        kinds = kinds-push k (unsubsumed f xs) f (kinds-rest k f xs (unsubsumed f xs) kinds rest) is;
        apart = apart_rest f xs (unsubsumed f xs) apart news rest;
        shown = λ w. shown-rest k w f xs (unsubsumed f xs) kinds is rest;
        assimilates = assimilates_news f xs (unsubsumed f xs) rest;
      })
]

-- ---- all that is late

pub late_push : (xs ys : List Fact) (f : Fact) → all_assimilated xs (ys ++ f ∷ []) ≡ assimilated (all_assimilated xs ys) f
late_push xs ys f = fold_push assimilated xs ys f

-- they are of the kind, and apart
pub late_kinds_apart : (k : Kind) (xs ys : List Fact) → AreOfKind k xs → AreOfKind k ys → AreApart xs → AreOfKind k (all_assimilated xs ys) × AreApart (all_assimilated xs ys)
late_kinds_apart k xs [] kinds late apart = (kinds, apart)
late_kinds_apart k xs (y ∷ ys) kinds late apart =
    let one = assimilation k y xs (All-head (Kinds k) y ys late) kinds apart in
    late_kinds_apart k (assimilated xs y) ys one.kinds (All-tail (Kinds k) y ys late) one.apart

-- what a fact that is late subsumes, or one that is kept, something subsumes in the end
still_subsumed : (k : Kind) (f : Fact) (xs ys : List Fact) → AreOfKind k xs → AreOfKind k ys → AreApart xs → IsSubsumedBy xs f → IsSubsumedBy (all_assimilated xs ys) f
still_subsumed k f xs [] kinds late apart held = held
still_subsumed k f xs (y ∷ ys) kinds late apart held =
    let one = assimilation k y xs (All-head (Kinds k) y ys late) kinds apart in
    let next : IsSubsumedBy (assimilated xs y) f = elim (one.assimilates.stays held.0 held.1) [
      | inl stays ↦ (held.0, stays, held.2)
      | inr subsumed ↦
          let by : IsSubsumedBy (assimilated xs y) y = one.assimilates.held in
          (by.0, by.1, subsumes_trans by.0 y f by.2 (subsumes_trans y held.0 f subsumed held.2))
    ] in
    still_subsumed k f (assimilated xs y) ys one.kinds (All-tail (Kinds k) y ys late) one.apart next

pub subsumed_late : (k : Kind) (f : Fact) (xs ys : List Fact) → AreOfKind k xs → AreOfKind k ys → AreApart xs → IsSubsumedBy ys f → IsSubsumedBy (all_assimilated xs ys) f
subsumed_late k f xs [] kinds late apart held = absurd (no_element held.0 held.1)
  where
    no_element : (x : Fact) → Contains {X = Fact} [] x → ⊥
    no_element x (i, below, at) = omega arith
subsumed_late k f xs (y ∷ ys) kinds late apart held =
    let one = assimilation k y xs (All-head (Kinds k) y ys late) kinds apart in
    let rest : AreOfKind k ys = All-tail (Kinds k) y ys late in
    elim (Contains-append_cases (y ∷ []) ys held.0 held.1) [
      | inl first ↦
          let by : IsSubsumedBy (assimilated xs y) y = one.assimilates.held in
          let is : y ≡ held.0 = only y held.0 first in
          still_subsumed k f (assimilated xs y) ys one.kinds rest one.apart
          (by.0, by.1, subsumes_trans by.0 y f by.2 (subst (λ (x : Fact). Subsumes x f) (sym is) held.2))
      | inr later ↦ subsumed_late k f (assimilated xs y) ys one.kinds rest one.apart (held.0, later, held.2)
    ]
  where
    only : (x z : Fact) → Contains (x ∷ []) z → x ≡ z
    only x z has = elim (Contains-push_cases [] x z has) [ inl none ↦ absurd (omega (arith, none.1)) | inr same ↦ same ]
