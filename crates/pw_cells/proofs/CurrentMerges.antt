-- The merge of the facts of a list stands for those that no later one outdoes.
use Rattle.std.proofs.Common.{◌≡◌, ◌≢◌, ℕ, true, false, List, [], ◌∷◌, ◌++◌, inl, inr, refl, sym, ◌∙◌, ap, subst, take, drop, reverse}
use Rattle.std.specs.Prelude.{Contains}
use Rattle.std.specs.Cmp.{nat_cmp_total}
use Rattle.std.specs.Ordering.{nat_cmp}
use Rattle.std.specs.FinSet.{contains, contains-empty, contains-union, is_subset, is_subset-contains}
use Rattle.std.proofs.lemmas.Bool.{cases_Bool, cond_both, or_cases, true_from_ne_false}
use Rattle.std.proofs.lemmas.List.{append-nil, reverse-append, take-append-drop}
use Rattle.std.proofs.lemmas.List.Elements.{All-cons, All-drop, All-head, All-tail, Contains-append_left, Contains-append_right, Contains-push}
use Rattle.pw_kinds.proofs.Order.{not_both}
use Rattle.pw_info.specs.declared.kind.Kind.{Kind}
use Rattle.pw_info.specs.declared.info.Info.{Info}
use Rattle.pw_info.specs.Information.{kind_of, meet, Implies}
use Rattle.pw_info.proofs.Informations.{implied_from_meet, meet_implied}
use Rattle.pw_premises.specs.Premises.{Premises}
use Rattle.pw_premises.specs.PremiseSubsets.{is_subset_refl}
use Rattle.pw_facts.specs.declared.fact.Fact.{Fact}
use Rattle.pw_facts.specs.Facts.{shows, IsMerge, MergesTo, nothing_known, visible_facts}
use Rattle.pw_facts.proofs.Merges.{merge_rests}
use Rattle.pw_facts.proofs.Shown.{shows-supported}
use Rattle.pw_cells.specs.declared.bound.Bound.{Bound}
use Rattle.pw_cells.specs.Cells.{shown_by, ArePremisesOf, IsSubsumedBy}
use Rattle.pw_cells.specs.inside.OneCell.{AreOfKind, Bounds, StandsFor, current}
use Rattle.pw_cells.proofs.Together.{kind-shown_by, kind_together, shown_known, shown-push, shown-reversed}
use Rattle.pw_cells.proofs.MergesTogether.{visible-push}
use Rattle.pw_cells.proofs.Bounds.{all_merged_stand, merged_later, merges_whole}
use Rattle.pw_cells.proofs.Current.{all_current, current_gone, current_stays, outdone_by, outdone_where}

abbrev Kinds : Kind → Fact → Type 0
Kinds k f = kind_of f.info ≡ k

-- ---- the first of a list

-- a list has its first element
has_first : (x : Fact) (xs : List Fact) → Contains (x ∷ xs) x
has_first x xs = Contains-append_left (x ∷ []) xs x (Contains-push [] x)

-- a fact that no later one outdoes stays so when one comes before it
current_behind : (x : Fact) (xs : List Fact) (f : Fact) → Contains (current xs) f → Contains (current (x ∷ xs)) f
current_behind x xs f held = elim (cases_Bool (outdone_by xs x)) [
  | inl e ↦ subst (λ (l : List Fact). Contains l f) (sym {A = List Fact} (current_gone x xs e)) held
  | inr e ↦ subst (λ (l : List Fact). Contains l f) (sym {A = List Fact} (current_stays x xs e)) (Contains-append_right (x ∷ []) (current xs) f held)
]

-- and when more do
pub current_behind_all : (xs ys : List Fact) (f : Fact) → Contains (current ys) f → Contains (current (xs ++ ys)) f
current_behind_all [] ys f held = held
current_behind_all (x ∷ xs) ys f held = current_behind x (xs ++ ys) f (current_behind_all xs ys f held)

-- ---- what they show

-- facts show what the first shows, merged into what the others show
shown_first : (k : Kind) (w : Premises) (x : Fact) (xs : List Fact) → AreOfKind k (x ∷ xs) → shown_by k w (x ∷ xs) ≡ meet (shown_by k w xs) (shows w x)
shown_first k w x xs kinds =
    sym (shown-reversed k w (x ∷ xs) kinds)
    ∙ ap (shown_by k w) (reverse-append (x ∷ []) xs)
    ∙ shown-push k w (reverse xs) x
    ∙ ap (λ i. meet i (shows w x)) (shown-reversed k w xs (All-tail (Kinds k) x xs kinds))

-- those that no later one outdoes show together what all show
pub shown_current : (k : Kind) (w : Premises) (fs : List Fact) → AreOfKind k fs → shown_by k w (current fs) ≡ shown_by k w fs
shown_current k w [] kinds = refl
shown_current k w (x ∷ xs) kinds =
    let is : Kinds k x = All-head (Kinds k) x xs kinds in
    let others : AreOfKind k xs = All-tail (Kinds k) x xs kinds in
    let rest : shown_by k w (current xs) ≡ shown_by k w xs = shown_current k w xs others in
    elim (cases_Bool (outdone_by xs x)) [
      | inl e ↦
          ap (shown_by k w) (current_gone x xs e) ∙ rest
          ∙ sym (shown_first k w x xs kinds ∙ shown_known k w xs x others is (outdone_where k x xs is others e))
      | inr e ↦
          ap (shown_by k w) (current_stays x xs e)
          ∙ shown_first k w x (current xs) (All-cons (Kinds k) x (current xs) is (all_current (Kinds k) xs others))
          ∙ ap (λ i. meet i (shows w x)) rest
          ∙ sym (shown_first k w x xs kinds)
    ]

-- ---- what their merge rests on

-- a merge with a fact that says no more rests on premises of the first alone
rests_on_first : (a x m : Fact) → kind_of a.info ≡ kind_of x.info → Implies a.info x.info → IsMerge a x m → is_subset m.support a.support ≡ true
rests_on_first a x m k says merge =
    true_from_ne_false (is_subset m.support a.support) (λ fails.
    let differ : a.info ≢ x.info =
    λ e. not_both _ (ap (λ s. is_subset s a.support) (merge.same e)
    ∙ cond_both (is_subset x.support a.support) x.support a.support (λ s. is_subset s a.support ≡ true) (λ sub. sub) (λ _. is_subset_refl a.support)) fails in
    not_both _ (ap (λ s. is_subset s a.support) (merge.first differ (merge.info ∙ meet_implied a.info x.info k says)) ∙ is_subset_refl a.support) fails)

-- what stands for facts of which one subsumes a visible fact says what that says
says_subsumed : (k : Kind) (w : Premises) (x : Fact) (xs : List Fact) (a : Fact) → Kinds k x → AreOfKind k xs → is_subset x.support w ≡ true
    → StandsFor k w xs a → IsSubsumedBy xs x → Implies a.info x.info
says_subsumed k w x xs a is kinds visible stands known =
    subst (λ (i : Info). Implies i x.info) (sym {A = Info} stands.info)
    (subst (λ (i : Info). Implies (shown_by k w xs) i) (shows-supported w x visible)
    (implied_from_meet (shown_by k w xs) (shows w x) (kind_together k w xs x is) (shown_known k w xs x kinds is known)))

-- premises of facts that no later one outdoes stay so when one comes before them
premises_behind : (x : Fact) (xs : List Fact) (p : ℕ) → (f : Fact) × Contains (current xs) f × (contains f.support p ≡ true)
    → (f : Fact) × Contains (current (x ∷ xs)) f × (contains f.support p ≡ true)
premises_behind x xs p found = (found.0, current_behind x xs found.0 found.1, found.2)

-- a visible fact is merged with what stands for those behind it
one_merged_rests : (k : Kind) (w : Premises) (x : Fact) (xs : List Fact) (a m : Fact) → Kinds k x → AreOfKind k xs → is_subset x.support w ≡ true
    → StandsFor k w xs a → IsMerge a x m → ArePremisesOf (current xs) a.support → ArePremisesOf (current (x ∷ xs)) m.support
one_merged_rests k w x xs a m is kinds visible stands merge rest p held = elim (cases_Bool (outdone_by xs x)) [
  | inl e ↦
      let says : Implies a.info x.info = says_subsumed k w x xs a is kinds visible stands (outdone_where k x xs is kinds e) in
      let alike : kind_of a.info ≡ kind_of x.info = ap kind_of stands.info ∙ kind-shown_by k w xs ∙ sym is in
      premises_behind x xs p (rest p (is_subset-contains nat_cmp_total m.support a.support (rests_on_first a x m alike says merge) p held))
  | inr e ↦ elim (or_cases (contains a.support p) (contains x.support p)
      (sym (contains-union nat_cmp_total a.support x.support p) ∙ is_subset-contains nat_cmp_total m.support _ (merge_rests a x m merge) p held)) [
        | inl first ↦ premises_behind x xs p (rest p first)
        | inr last ↦ (x, subst (λ (l : List Fact). Contains l x) (sym {A = List Fact} (current_stays x xs e)) (has_first x (current xs)), last)
      ]
]

-- a merge of facts and one more is the merge of that one with the merge of the others
merges_apart : (first : Fact) (fs : List Fact) (f m : Fact) → MergesTo first (fs ++ f ∷ []) m → (a : Fact) × MergesTo first fs a × IsMerge a f m
merges_apart first [] f m merges = (first, refl, subst (IsMerge first f) (sym {A = Fact} merges.2) merges.1)
merges_apart first (x ∷ fs) f m merges =
    let rest = merges_apart merges.0 fs f m merges.2 in (rest.0, (merges.0, merges.1, rest.1), rest.2)

-- the merge of all facts, from the last one on, rests on premises of those that no later one outdoes
merged_rests : (k : Kind) (w : Premises) (fs : List Fact) (m : Fact) → AreOfKind k fs → MergesTo (nothing_known k) (visible_facts w (reverse fs)) m
    → ArePremisesOf (current fs) m.support
merged_rests k w [] m kinds merges =
    λ p held. absurd (not_both _ (subst (λ (f : Fact). contains f.support p ≡ true) merges held) (contains-empty nat_cmp p))
merged_rests k w (x ∷ xs) m kinds merges =
    let is : Kinds k x = All-head (Kinds k) x xs kinds in
    let others : AreOfKind k xs = All-tail (Kinds k) x xs kinds in
    let last : MergesTo (nothing_known k) (visible_facts w (reverse xs ++ x ∷ [])) m =
    subst (λ (l : List Fact). MergesTo (nothing_known k) (visible_facts w l) m) (reverse-append (x ∷ []) xs) merges in
    elim (cases_Bool (is_subset x.support w)) [
      | inl e ↦
          let on = merges_apart (nothing_known k) (visible_facts w (reverse xs)) x m
          (subst (λ (l : List Fact). MergesTo (nothing_known k) l m) (visible-push w (reverse xs) x true e) last) in
          one_merged_rests k w x xs on.0 m is others e (all_merged_stand k w xs on.0 others on.1) on.2 (merged_rests k w xs on.0 others on.1)
      | inr e ↦
          let on : MergesTo (nothing_known k) (visible_facts w (reverse xs)) m =
          subst (λ (l : List Fact). MergesTo (nothing_known k) l m)
          (visible-push w (reverse xs) x false e ∙ append-nil (visible_facts w (reverse xs))) last in
          λ p held. premises_behind x xs p (merged_rests k w xs m others on p held)
    ]

-- ---- what stands for them

-- what stands for all, and rests on premises of those that no later one outdoes, stands for those
current_stands : (k : Kind) (w : Premises) (fs : List Fact) (m : Fact) → AreOfKind k fs → StandsFor k w fs m → ArePremisesOf (current fs) m.support
    → StandsFor k w (current fs) m
current_stands k w fs m kinds stands rests = record {
  info = stands.info ∙ sym (shown_current k w fs kinds);
  within = stands.within;
  same = shown_current k m.support fs kinds ∙ stands.same;
  rests = rests;
}

-- the later facts are merged, and then the older ones: this stands for those that no later one outdoes
pub merged_current : (k : Kind) (w : Premises) (n : ℕ) (fs : List Fact) (a m : Fact) → AreOfKind k fs
    → MergesTo (nothing_known k) (visible_facts w (reverse (drop n fs))) a → MergesTo a (visible_facts w (reverse (take n fs))) m → StandsFor k w (current fs) m
merged_current k w n fs a m kinds first rest =
    let whole : MergesTo (nothing_known k) (visible_facts w (reverse fs)) m = merges_whole k w n fs a m first rest in
    current_stands k w fs m kinds (all_merged_stand k w fs m kinds whole) (merged_rests k w fs m kinds whole)

-- so does the merge of the later facts, if it says as much as each of the older ones
pub merged_later_current : (k : Kind) (w : Premises) (fs : List Fact) (b : Bound) (a : Fact) → AreOfKind k fs → Bounds k fs b
    → MergesTo (nothing_known k) (visible_facts w (reverse (drop b.count fs))) a → Implies a.info b.info → StandsFor k w (current fs) a
merged_later_current k w fs b a kinds bounds first more =
    current_stands k w fs a kinds (merged_later k w fs b a kinds bounds first more) (λ p held.
    let found = merged_rests k w (drop b.count fs) a (All-drop (Kinds k) b.count fs kinds) first p held in
    (found.0, subst (λ (l : List Fact). Contains (current l) found.0) (take-append-drop b.count fs) (current_behind_all (take b.count fs) (drop b.count fs) found.0 found.1), found.2))
