-- Laws of the subset test of finite sets of numbers.
use Rattle.std.specs.Prelude.{◌≡◌, ℕ, Bool, true, false, not, ◌&&◌, ◌||◌}
use Rattle.std.specs.Bool.{Decides}
use Rattle.std.specs.Ordering.{nat_cmp, eq_by_cmp}
use Rattle.std.specs.Cmp.{nat_cmp_total, both_ways, IsEquivalence}
use Rattle.std.specs.FinSet.{FinSet, empty, remove, contains, union, is_subset, same_set}
use Rattle.std.specs.FinSet.{difference, contains-empty, contains-remove, contains-union}
use Rattle.std.specs.FinSet.{contains-difference, contains-is_subset}
use Rattle.std.specs.FinSet.{is_subset-contains, nat_cmp-IsAntisymmetric}
use Rattle.std.proofs.Common.{refl, sym, ap, ◌∙◌, inl, inr}
use Rattle.std.proofs.lemmas.Bool.{or_cases}

-- a set is a subset of itself
pub is_subset_refl : (s : FinSet nat_cmp) → is_subset s s ≡ true
is_subset_refl s = contains-is_subset nat_cmp_total s s (λ q one. one)

-- a subset of a subset is a subset
pub is_subset_trans : (s t u : FinSet nat_cmp) → is_subset s t ≡ true → is_subset t u ≡ true →
    is_subset s u ≡ true
is_subset_trans s t u h k = contains-is_subset nat_cmp_total s u (λ q one.
    is_subset-contains nat_cmp_total t u k q (is_subset-contains nat_cmp_total s t h q one))

-- sets that are subsets of each other are equal
pub is_subset_antisym : (s t : FinSet nat_cmp) → is_subset s t ≡ true → is_subset t s ≡ true → s ≡ t
is_subset_antisym s t h k = same_set nat_cmp_total nat_cmp-IsAntisymmetric s t (λ q.
    both_ways _ _ (is_subset-contains nat_cmp_total s t h q)
    (is_subset-contains nat_cmp_total t s k q))

-- the empty set is a subset of every set
pub empty_is_subset : (s : FinSet nat_cmp) → is_subset empty s ≡ true
empty_is_subset s = contains-is_subset nat_cmp_total empty s (λ q one.
    absurd (not_both _ (contains-empty nat_cmp q) one)) where
      not_both : (b : Bool) → b ≡ false → b ≡ true → ⊥
      not_both b e h = (cc)

or_left : (a b : Bool) → a ≡ true → (a || b) ≡ true
or_left a b e = ap (λ c. c || b) e

or_right : (a b : Bool) → b ≡ true → (a || b) ≡ true
or_right true b e = refl
or_right false b e = e

-- a set is a subset of its union with another
pub is_subset_union_left : (s t : FinSet nat_cmp) → is_subset s (union s t) ≡ true
is_subset_union_left s t = contains-is_subset nat_cmp_total s _ (λ q one.
    contains-union nat_cmp_total s t q ∙ or_left _ _ one)

-- a set is a subset of the union of another with it
pub is_subset_union_right : (s t : FinSet nat_cmp) → is_subset t (union s t) ≡ true
is_subset_union_right s t = contains-is_subset nat_cmp_total t _ (λ q one.
    contains-union nat_cmp_total s t q ∙ or_right _ _ one)

-- the union is the least of the sets of which both are subsets
pub union_is_subset : (s t u : FinSet nat_cmp) → is_subset s u ≡ true → is_subset t u ≡ true →
    is_subset (union s t) u ≡ true
union_is_subset s t u h k = contains-is_subset nat_cmp_total _ u (λ q one.
    elim (or_cases (contains s q) (contains t q) (sym (contains-union nat_cmp_total s t q) ∙ one)) [
      | inl e ↦ is_subset-contains nat_cmp_total s u h q e
      | inr e ↦ is_subset-contains nat_cmp_total t u k q e
    ])

and_true : (a b : Bool) → (a && b) ≡ true → (a ≡ true) × (b ≡ true)
and_true true b e = (refl, e)
and_true false b e = ((cc), (cc))

true_and : (a b : Bool) → a ≡ true → b ≡ true → (a && b) ≡ true
true_and a b e h = ap (λ c. c && b) e ∙ h

-- a union is a subset exactly if both its parts are
pub union_is_subset_both : (s t u : FinSet nat_cmp) → is_subset (union s t) u
    ≡ (is_subset s u && is_subset t u)
union_is_subset_both s t u = both_ways _ _
    (λ all. true_and _ _ (is_subset_trans s _ u (is_subset_union_left s t) all)
    (is_subset_trans t _ u (is_subset_union_right s t) all))
    (λ both. let parts : (is_subset s u ≡ true) × (is_subset t u ≡ true) = and_true _ _ both in
    union_is_subset s t u parts.0 parts.1)

-- a set without a number is a subset of the set
pub remove_is_subset : (s : FinSet nat_cmp) (n : ℕ) → is_subset (remove s n) s ≡ true
remove_is_subset s n = contains-is_subset nat_cmp_total _ s (λ q one.
    (and_true (not (eq_by_cmp nat_cmp q n)) _ (sym (contains-remove nat_cmp_total s n q) ∙ one)).1)

-- whether two sets have the same numbers
abbrev pub has_same_numbers : FinSet nat_cmp → FinSet nat_cmp → Bool
has_same_numbers s t = is_subset s t && is_subset t s

-- it decides whether they are equal
pub same_numbers_equal : (s t : FinSet nat_cmp) → Decides (has_same_numbers s t) (s ≡ t)
same_numbers_equal s t = (
  λ both. let parts : (is_subset s t ≡ true) × (is_subset t s ≡ true) = and_true _ _ both in
      is_subset_antisym s t parts.0 parts.1,
  λ e. ap (λ u. has_same_numbers u t) e ∙ true_and _ _ (is_subset_refl t) (is_subset_refl t),
)

pub and_not_false : (a b : Bool) → (a && not b) ≡ false → a ≡ true → b ≡ true
and_not_false true true e h = refl
and_not_false true false e h = (cc)
and_not_false false b e h = (cc)

pub false_and_not : (a b : Bool) → (a ≡ true → b ≡ true) → (a && not b) ≡ false
false_and_not true b h = ap not (h refl)
false_and_not false b h = refl

-- a set is a subset of another exactly if nothing is left of it without the other
pub difference_is_empty : (s t : FinSet nat_cmp) → Decides (is_subset s t) (difference s t ≡ empty)
difference_is_empty s t = (
  λ all. same_set nat_cmp_total nat_cmp-IsAntisymmetric _ _ (λ q.
      contains-difference nat_cmp_total s t q
      ∙ false_and_not _ _ (is_subset-contains nat_cmp_total s t all q)
      ∙ sym (contains-empty nat_cmp q)),
  λ none. contains-is_subset nat_cmp_total s t (λ q one. and_not_false _ _
      (sym (contains-difference nat_cmp_total s t q) ∙ ap (λ u. contains u q) none
      ∙ contains-empty nat_cmp q) one),
)

-- so the test for nothing left is the subset test
pub no_difference : (b : Bool) (s t u : FinSet nat_cmp) → u ≡ difference s t → Decides b (u ≡ empty)
    → b ≡ is_subset s t
no_difference b s t u is none = both_ways b _
    (λ e. (difference_is_empty s t).1 (sym is ∙ none.0 e))
    (λ all. none.1 (is ∙ (difference_is_empty s t).0 all))

empty_of_subset : (s : FinSet nat_cmp) → is_subset s empty ≡ true → s ≡ empty
empty_of_subset s h = is_subset_antisym s empty h (empty_is_subset s)

no_numbers : (s t : FinSet nat_cmp) → s ≡ empty → t ≡ empty → union s t ≡ empty
no_numbers s t h k = empty_of_subset _ (union_is_subset s t empty (ap (is_subset s) (sym h)
    ∙ is_subset_refl s) (ap (is_subset t) (sym k) ∙ is_subset_refl t))

subset_of_left : (s t u : FinSet nat_cmp) → u ≡ difference s t → is_subset u empty ≡ true
    → is_subset s t ≡ true
subset_of_left s t u is h = (difference_is_empty s t).1 (sym is ∙ empty_of_subset u h)

-- and the test for nothing left on either side is the test of the same numbers
pub no_differences : (b : Bool) (s t u v w : FinSet nat_cmp) → u ≡ difference s t
    → v ≡ difference t s → w ≡ union u v → Decides b (w ≡ empty) → b ≡ has_same_numbers s t
no_differences b s t u v w is_u is_v is_w none = both_ways b _
    (λ e. let joined : union u v ≡ empty = sym is_w ∙ none.0 e in
    true_and _ _ (subset_of_left s t u is_u (ap (is_subset u) (sym joined)
    ∙ is_subset_union_left u v)) (subset_of_left t s v is_v (ap (is_subset v) (sym joined)
    ∙ is_subset_union_right u v)))
    (λ both. let parts : (is_subset s t ≡ true) × (is_subset t s ≡ true) = and_true _ _ both in
    none.1 (is_w ∙ no_numbers u v (is_u ∙ (difference_is_empty s t).0 parts.0)
    (is_v ∙ (difference_is_empty t s).0 parts.1)))

and_swap : (a b : Bool) → (a && b) ≡ (b && a)
and_swap true true = refl
and_swap true false = refl
and_swap false true = refl
and_swap false false = refl

-- the laws of `==`
pub same_numbers_equiv : IsEquivalence has_same_numbers
same_numbers_equiv = record {
  refl = λ s. true_and _ _ (is_subset_refl s) (is_subset_refl s);
  symm = λ s t. and_swap (is_subset s t) (is_subset t s);
  congr = λ s t u e. ap (λ v. has_same_numbers v u) ((same_numbers_equal s t).0 e);
}
