-- The merge by the rule: there is one, it is what the code builds, and what it shows.
use Rattle.std.proofs.Common.{◌≡◌, ◌≢◌, Bool, true, false, inl, inr, refl, sym, ◌∙◌, ap, subst}
use Rattle.std.specs.FinSet.{is_subset, union}
use Rattle.std.proofs.lemmas.Bool.{cases_Bool, true_from_ne_false, cond-true, cond-false, cond_both}
use Rattle.pw_info.specs.declared.info.Info.{Info}
use Rattle.pw_info.specs.Information.{kind_of, allows, meet, nothing, Implies}
use Rattle.pw_info.proofs.Informations.{kind-closest, meet_comm, meet_nothing, meet_implied, implied_from_meet}
use Rattle.pw_kinds.proofs.Order.{not_both}
use Rattle.pw_premises.specs.PremiseSubsets.{is_subset_refl, is_subset_trans, is_subset_union_left, is_subset_union_right, has_same_numbers, same_numbers_equal}
use Rattle.pw_premises.specs.Premises.{Premises}
use Rattle.pw_facts.specs.declared.fact.Fact.{Fact}
use Rattle.pw_facts.specs.Facts.{shows, IsMerge}
use Rattle.pw_facts.proofs.Shown.{implies_same, shows-supported, shows-unsupported}

-- the fact that says what both say and rests on these premises
abbrev meet_under : Fact → Fact → Premises → Fact
meet_under a b premises = record { info = meet a.info b.info; support = premises }

-- ---- what the code builds

-- if the first says what the merge says, and the second not the same on fewer premises, it rests on
-- what the first rests on
pub merge_first : (a b : Fact) → kind_of a.info ≡ kind_of b.info → Implies a.info b.info → (Implies b.info a.info → is_subset b.support a.support ≡ false)
    → IsMerge a b (meet_under a b a.support)
merge_first a b k p larger =
    let is : meet a.info b.info ≡ a.info = meet_implied a.info b.info k p in
    record {
      info = refl;
      same = λ e. sym (cond-false _ b.support a.support (larger (implies_same b.info a.info (sym e))));
      first = λ _ _. refl;
      second = λ ne e. absurd (ne (sym is ∙ e));
      both = λ ne _. absurd (ne is);
    }

-- if the second says what the merge says, and the first not the same unless on more premises, on
-- what the second rests on
pub merge_second : (a b : Fact) → kind_of a.info ≡ kind_of b.info → Implies b.info a.info → (Implies a.info b.info → is_subset b.support a.support ≡ true)
    → IsMerge a b (meet_under a b b.support)
merge_second a b k p smaller =
    let is : meet a.info b.info ≡ b.info = meet_comm a.info b.info k ∙ meet_implied b.info a.info (sym k) p in
    record {
      info = refl;
      same = λ e. sym (cond-true _ b.support a.support (smaller (implies_same a.info b.info e)));
      first = λ ne e. absurd (ne (sym e ∙ is));
      second = λ _ _. refl;
      both = λ _ ne. absurd (ne is);
    }

-- so it is the first, or the second
pub merge_is_first : (a b : Fact) → kind_of a.info ≡ kind_of b.info → Implies a.info b.info → (Implies b.info a.info → is_subset b.support a.support ≡ false) → IsMerge a b a
merge_is_first a b k p larger =
    subst (λ (i : Info). IsMerge a b (record { info = i; support = a.support })) (meet_implied a.info b.info k p) (merge_first a b k p larger)

pub merge_is_second : (a b : Fact) → kind_of a.info ≡ kind_of b.info → Implies b.info a.info → (Implies a.info b.info → is_subset b.support a.support ≡ true) → IsMerge a b b
merge_is_second a b k p smaller =
    subst (λ (i : Info). IsMerge a b (record { info = i; support = b.support })) (meet_comm a.info b.info k ∙ meet_implied b.info a.info (sym k) p)
    (merge_second a b k p smaller)

-- if neither says what the merge says, on what both rest on
pub merge_both : (a b : Fact) → kind_of a.info ≡ kind_of b.info → (Implies a.info b.info → ⊥) → (Implies b.info a.info → ⊥)
    → IsMerge a b (meet_under a b (union a.support b.support))
merge_both a b k not_first not_second = record {
  info = refl;
  same = λ e. absurd (not_first (implies_same a.info b.info e));
  first = λ _ e. absurd (not_first (implied_from_meet a.info b.info k e));
  second = λ _ e. absurd (not_second (implied_from_meet b.info a.info (sym k) (meet_comm b.info a.info (sym k) ∙ e)));
  both = λ _ _. refl;
}

-- ---- laws of the rule

-- a test that passes in each case of the rule passes
by_cases : (i j m : Info) (t : Bool) → (i ≡ j → t ≡ true) → (i ≢ j → m ≡ i → t ≡ true) → (i ≢ j → m ≡ j → t ≡ true) → (m ≢ i → m ≢ j → t ≡ true) → t ≡ true
by_cases i j m t same first second both = true_from_ne_false t (λ fails.
    let differ : i ≢ j = λ e. not_both t (same e) fails in
    not_both t (both (λ e. not_both t (first differ e) fails) (λ e. not_both t (second differ e) fails)) fails)

-- what a test passes of the supports that a merge may have it passes of the merge's
of_support : (a b m : Fact) (t : Premises → Bool) → IsMerge a b m → t a.support ≡ true → t b.support ≡ true → t (union a.support b.support) ≡ true → t m.support ≡ true
of_support a b m t merge in_first in_second in_both = by_cases a.info b.info m.info (t m.support)
    (λ e. ap t (merge.same e) ∙ cond_both (is_subset b.support a.support) b.support a.support (λ s. t s ≡ true) (λ _. in_second) (λ _. in_first))
    (λ ne e. ap t (merge.first ne e) ∙ in_first)
    (λ ne e. ap t (merge.second ne e) ∙ in_second)
    (λ ne ne'. ap t (merge.both ne ne') ∙ in_both)

-- a merge rests on nothing that neither rests on
pub merge_rests : (a b m : Fact) → IsMerge a b m → is_subset m.support (union a.support b.support) ≡ true
merge_rests a b m merge = of_support a b m (λ s. is_subset s (union a.support b.support)) merge
    (is_subset_union_left a.support b.support) (is_subset_union_right a.support b.support) (is_subset_refl (union a.support b.support))

-- two facts have one merge
pub one_merge : (a b m n : Fact) → IsMerge a b m → IsMerge a b n → m ≡ n
one_merge a b m n one another =
    let info : m.info ≡ n.info = one.info ∙ sym another.info in
    let alike : m.support ≡ n.support → has_same_numbers m.support n.support ≡ true = (same_numbers_equal m.support n.support).1 in
    let support : m.support ≡ n.support = (same_numbers_equal m.support n.support).0 (by_cases a.info b.info m.info (has_same_numbers m.support n.support)
    (λ e. alike (one.same e ∙ sym (another.same e)))
    (λ ne e. alike (one.first ne e ∙ sym (another.first ne (sym info ∙ e))))
    (λ ne e. alike (one.second ne e ∙ sym (another.second ne (sym info ∙ e))))
    (λ ne ne'. alike (one.both ne ne' ∙ sym (another.both (λ e. ne (info ∙ e)) (λ e. ne' (info ∙ e)))))) in
    λ i. record { info = info i; support = support i }

-- ---- what the two show where the merge's support is believed

-- if the merge's support is believed, the set that it is is believed
believed : (m : Fact) (w s : Premises) → is_subset m.support w ≡ true → m.support ≡ s → is_subset s w ≡ true
believed m w s within e = subst (λ (x : Premises). is_subset x w ≡ true) e within

-- if the second's support is not, the first's is
first_believed : (a b m : Fact) (w : Premises) → IsMerge a b m → is_subset m.support w ≡ true → is_subset b.support w ≡ false → is_subset a.support w ≡ true
first_believed a b m w merge within not_second =
    let at : (s : Premises) → m.support ≡ s → is_subset s w ≡ true = λ s. believed m w s within in
    by_cases a.info b.info m.info (is_subset a.support w)
    (λ e. cond_both (is_subset b.support a.support) b.support a.support (λ s. is_subset s w ≡ true → is_subset a.support w ≡ true)
    (λ _ h. absurd (not_both _ h not_second)) (λ _ h. h) (at _ (merge.same e)))
    (λ ne e. at _ (merge.first ne e))
    (λ ne e. absurd (not_both _ (at _ (merge.second ne e)) not_second))
    (λ ne ne'. is_subset_trans a.support _ w (is_subset_union_left a.support b.support) (at _ (merge.both ne ne')))

-- if the second's support is not, the first alone says what the merge says
first_implies : (a b m : Fact) (w : Premises) → kind_of a.info ≡ kind_of b.info → IsMerge a b m
    → is_subset m.support w ≡ true → is_subset b.support w ≡ false → Implies a.info b.info
first_implies a b m w k merge within not_second v h =
    let at : (s : Premises) → m.support ≡ s → is_subset s w ≡ true = λ s. believed m w s within in
    by_cases a.info b.info m.info (allows b.info v)
    (λ e. implies_same a.info b.info e v h)
    (λ ne e. implied_from_meet a.info b.info k (sym merge.info ∙ e) v h)
    (λ ne e. absurd (not_both _ (at _ (merge.second ne e)) not_second))
    (λ ne ne'. absurd (not_both _ (is_subset_trans b.support _ w (is_subset_union_right a.support b.support) (at _ (merge.both ne ne'))) not_second))

-- if the first's support is not, the second alone does
second_implies : (a b m : Fact) (w : Premises) → kind_of a.info ≡ kind_of b.info → IsMerge a b m
    → is_subset m.support w ≡ true → is_subset a.support w ≡ false → Implies b.info a.info
second_implies a b m w k merge within not_first v h =
    let at : (s : Premises) → m.support ≡ s → is_subset s w ≡ true = λ s. believed m w s within in
    by_cases a.info b.info m.info (allows a.info v)
    (λ e. implies_same b.info a.info (sym e) v h)
    (λ ne e. absurd (not_both _ (at _ (merge.first ne e)) not_first))
    (λ ne e. implied_from_meet b.info a.info (sym k) (meet_comm b.info a.info (sym k) ∙ sym merge.info ∙ e) v h)
    (λ ne ne'. absurd (not_both _ (is_subset_trans a.support _ w (is_subset_union_left a.support b.support) (at _ (merge.both ne ne'))) not_first))

-- the two together show what the merge says
pub merge_shows : (a b m : Fact) (w : Premises) → kind_of a.info ≡ kind_of b.info → IsMerge a b m → is_subset m.support w ≡ true
    → meet (shows w a) (shows w b) ≡ m.info
merge_shows a b m w k merge within = elim (cases_Bool (is_subset b.support w)) [
  | inl second ↦ elim (cases_Bool (is_subset a.support w)) [
    | inl first ↦ (λ i. meet (shows-supported w a first i) (shows-supported w b second i)) ∙ sym merge.info
    | inr not_first ↦
        (λ i. meet (shows-unsupported w a not_first i) (shows-supported w b second i))
        ∙ ap (λ kind. meet (nothing kind) b.info) k
        ∙ meet_comm (nothing (kind_of b.info)) b.info (kind-closest (kind_of b.info) (λ v. true))
        ∙ meet_nothing b.info
        ∙ sym (meet_implied b.info a.info (sym k) (second_implies a b m w k merge within not_first))
        ∙ meet_comm b.info a.info (sym k)
        ∙ sym merge.info
  ]
  | inr not_second ↦
      (λ i. meet (shows-supported w a (first_believed a b m w merge within not_second) i) (shows-unsupported w b not_second i))
      ∙ ap (λ kind. meet a.info (nothing kind)) (sym k)
      ∙ meet_nothing a.info
      ∙ sym (meet_implied a.info b.info k (first_implies a b m w k merge within not_second))
      ∙ sym merge.info
]
