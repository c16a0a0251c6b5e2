-- The list of a set's numbers: its first, its last, and what it contains.
use Rattle.std.specs.Prelude.{◌↔◌, Contains, ◌≡◌, ◌≢◌, ℕ, zero, suc, ◌+◌, ◌-◌, ◌<◌, ◌≤◌, Bool, true, false, not, cond, ◌&&◌, ◌||◌, nat_eq, nat_lt, List, [], ◌∷◌, ◌++◌, filter, length}
use Rattle.std.specs.List.{range_with_len, list_any}
use Rattle.std.specs.List.Sorted.{IsStrictlyIncreasing}
use Rattle.std.specs.Ordering.{nat_cmp}
use Rattle.std.specs.Cmp.{nat_cmp_total, unsigned_tied, nat_eq_equiv}
use Rattle.std.specs.FinSet.{FinSet, empty, contains, remove, contains-empty, contains-remove}
use Rattle.std.proofs.Common.{refl, sym, ap, ◌∙◌, arith, length-append}
use Rattle.std.proofs.lemmas.Bool.Decides.{nat_tests}
use Rattle.std.proofs.lemmas.List.{append-nil}
use Rattle.std.proofs.lemmas.Bool.{eqb-true}
use Rattle.std.proofs.lemmas.List.Elements.{filter-append}
use Rattle.std.proofs.lemmas.List.FromFn.{length-range_with_len, get_or-range_with_len}
use Rattle.std.proofs.lemmas.List.Kept.{IsStrictlyIncreasing-filter}
use Rattle.std.proofs.lemmas.Map.Views.{any-filter_same, Contains-from_any, list_any-from_Contains}
use Rattle.pw_premises.specs.Premises.{numbers_of, IsLeast, IsGreatest}
use Rattle.pw_premises.specs.inside.Words.{has_bit_in, set_of_words}
use Rattle.pw_premises.specs.PremiseSets.{contains-set_where}

-- a range in two parts
range_parts : (a m k b c : ℕ) → a + m ≡ b → m + k ≡ c → range_with_len a c ≡ range_with_len a m ++ range_with_len b k
range_parts a zero k b c e f = let at : a ≡ b = omega arith in let long : c ≡ k = omega arith in λ i. range_with_len (at i) (long i)
range_parts a (suc m) k b c e f = let long : c ≡ suc (m + k) = omega arith in
    ap (range_with_len a) long ∙ ap (λ (xs : List ℕ). a ∷ xs) (range_parts (a + 1) m k b (m + k) (omega arith) refl)

-- tests that agree on a range pass the same numbers of it
filter_alike : (p r : ℕ → Bool) (a w : ℕ) → ((q : ℕ) → a ≤ q → q < a + w → p q ≡ r q) → filter p (range_with_len a w) ≡ filter r (range_with_len a w)
filter_alike p r a zero same = refl
filter_alike p r a (suc w) same =
    let here : p a ≡ r a = same a (omega arith) (omega arith) in
    let others : filter p (range_with_len (a + 1) w) ≡ filter r (range_with_len (a + 1) w) = filter_alike p r (a + 1) w (λ q h k. same q (omega arith) (omega arith)) in
    λ i. cond (here i) (a ∷ others i) (others i)

filter_of_none : (a w : ℕ) → filter (λ _. false) (range_with_len a w) ≡ []
filter_of_none a zero = refl
filter_of_none a (suc w) = filter_of_none (a + 1) w

filter_none : (p : ℕ → Bool) (a w : ℕ) → ((q : ℕ) → a ≤ q → q < a + w → p q ≡ false) → filter p (range_with_len a w) ≡ []
filter_none p a w none = filter_alike p (λ _. false) a w none ∙ filter_of_none a w

-- what passes below w: what passes below n, n itself if it passes, and what passes above it
parts : (p : ℕ → Bool) (w n : ℕ) → n < w
    → filter p (range_with_len 0 w) ≡ filter p (range_with_len 0 n) ++ cond (p n) (n ∷ filter p (range_with_len (n + 1) (w - (n + 1)))) (filter p (range_with_len (n + 1) (w - (n + 1))))
parts p w n h = ap (filter p) (range_parts 0 n (suc (w - (n + 1))) n w (omega arith) (omega arith)) ∙ filter-append p (range_with_len 0 n) (range_with_len n (suc (w - (n + 1))))

pick : (b c : Bool) (xs ys : List ℕ) → b ≡ c → cond b xs ys ≡ cond c xs ys
pick b c xs ys e = ap (λ d. cond d xs ys) e

-- if n is the least that passes p, and r passes what p does but n
first_below : (p r : ℕ → Bool) (w n : ℕ) → n < w → p n ≡ true → r n ≡ false → ((q : ℕ) → q < n → p q ≡ false) → ((q : ℕ) → q ≢ n → r q ≡ p q)
    → filter p (range_with_len 0 w) ≡ n ∷ filter r (range_with_len 0 w)
first_below p r w n h one without none others =
    let above : filter p (range_with_len (n + 1) (w - (n + 1))) ≡ filter r (range_with_len (n + 1) (w - (n + 1))) = filter_alike p r _ _ (λ q more _. sym (others q (omega arith))) in
    let low_p : filter p (range_with_len 0 n) ≡ [] = filter_none p 0 n (λ q _ below. none q (omega arith)) in
    let low_r : filter r (range_with_len 0 n) ≡ [] = filter_none r 0 n (λ q _ below. others q (omega arith) ∙ none q (omega arith)) in
    parts p w n h ∙ (λ i. low_p i ++ pick (p n) true (n ∷ above i) (above i) one i)
    ∙ sym (ap (λ (xs : List ℕ). n ∷ xs) (parts r w n h ∙ (λ i. low_r i ++ pick (r n) false (n ∷ filter r (range_with_len (n + 1) (w - (n + 1)))) (filter r (range_with_len (n + 1) (w - (n + 1)))) without i)))

-- if n is the greatest that passes p, and r passes what p does but n
last_below : (p r : ℕ → Bool) (w n : ℕ) → n < w → p n ≡ true → r n ≡ false → ((q : ℕ) → n < q → p q ≡ false) → ((q : ℕ) → q ≢ n → r q ≡ p q)
    → filter p (range_with_len 0 w) ≡ filter r (range_with_len 0 w) ++ n ∷ []
last_below p r w n h one without none others =
    let below : filter p (range_with_len 0 n) ≡ filter r (range_with_len 0 n) = filter_alike p r _ _ (λ q _ less. sym (others q (omega arith))) in
    let high_p : filter p (range_with_len (n + 1) (w - (n + 1))) ≡ [] = filter_none p _ _ (λ q above _. none q (omega arith)) in
    let high_r : filter r (range_with_len (n + 1) (w - (n + 1))) ≡ [] = filter_none r _ _ (λ q above _. others q (omega arith) ∙ none q (omega arith)) in
    parts p w n h ∙ (λ i. below i ++ pick (p n) true (n ∷ high_p i) (high_p i) one i)
    ∙ sym (ap (λ (xs : List ℕ). xs ++ n ∷ []) (parts r w n h ∙ (λ i. filter r (range_with_len 0 n) ++ pick (r n) false (n ∷ high_r i) (high_r i) without i) ∙ append-nil _))

not_same : (b : Bool) (q n : ℕ) → q ≢ n → (not (nat_eq q n) && b) ≡ b
not_same b q n h = grind (arith, nat_tests)

not_itself : (b : Bool) (n : ℕ) → (not (nat_eq n n) && b) ≡ false
not_itself b n = grind (arith, nat_tests)

contains-without : (s : FinSet nat_cmp) (n q : ℕ) → contains (remove s n) q ≡ (not (nat_eq q n) && contains s q)
contains-without s n q = contains-remove nat_cmp_total s n q ∙ ap (λ b. not b && contains s q) (unsigned_tied q n)

-- the least number of a set comes first, and then the others
pub first_of_numbers : (s : FinSet nat_cmp) (n : ℕ) → IsLeast s n → numbers_of s ≡ n ∷ numbers_of (remove s n)
unfolding numbers_of
first_of_numbers s n h = first_below (contains s) (contains (remove s n)) 512 n h.below h.holds (contains-without s n n ∙ not_itself (contains s n) n) h.least
    (λ q other. contains-without s n q ∙ not_same (contains s q) q n other)

-- the greatest comes last, after the others
pub last_of_numbers : (s : FinSet nat_cmp) (n : ℕ) → IsGreatest s n → numbers_of s ≡ numbers_of (remove s n) ++ n ∷ []
unfolding numbers_of
last_of_numbers s n h = last_below (contains s) (contains (remove s n)) 512 n h.below h.holds (contains-without s n n ∙ not_itself (contains s n) n) h.greatest
    (λ q other. contains-without s n q ∙ not_same (contains s q) q n other)

-- without the greatest there are fewer
pub fewer_without_last : (s : FinSet nat_cmp) (n : ℕ) → IsGreatest s n → length (numbers_of (remove s n)) < length (numbers_of s)
fewer_without_last s n h = rw (last_of_numbers s n h) (simp length-append (omega arith))

-- the empty set has no number
pub numbers_of_empty : numbers_of empty ≡ []
unfolding numbers_of
numbers_of_empty = filter_none (contains {R = nat_cmp} empty) 0 512 (λ q _ _. contains-empty nat_cmp q)

range_rises : (w : ℕ) → IsStrictlyIncreasing (range_with_len 0 w)
range_rises w k h =
    let long : length (range_with_len 0 w) ≡ w = length-range_with_len 0 w in
    omega (arith, get_or-range_with_len 0 w k 0 (omega arith), get_or-range_with_len 0 w (k + 1) 0 (omega arith))

-- the numbers of a set rise
pub numbers_of-rising : (s : FinSet nat_cmp) → IsStrictlyIncreasing (numbers_of s)
unfolding numbers_of
numbers_of-rising s = IsStrictlyIncreasing-filter (contains s) (range_with_len 0 512) (range_rises 512)

any_of_range : (a n q : ℕ) → list_any (nat_eq q) (range_with_len a n) ≡ (not (nat_lt q a) && nat_lt q (a + n))
any_of_range a zero q = grind (arith, nat_tests)
any_of_range a (suc n) q = ap (λ b. nat_eq q a || b) (any_of_range (a + 1) n q) ∙ grind (arith, nat_tests)

-- a search finds the numbers that pass
any_of_filter : (p : ℕ → Bool) (w q : ℕ) → list_any (nat_eq q) (filter p (range_with_len 0 w)) ≡ (p q && nat_lt q w)
any_of_filter p w q = any-filter_same (nat_eq q) p (p q) (λ k e. sym (ap p (eqb-true q k e))) (range_with_len 0 w)
    ∙ ap (λ b. p q && b) (any_of_range 0 w q ∙ grind (arith, nat_tests))

both_true : (b : Bool) (q w : ℕ) → (b && nat_lt q w) ≡ true → (q < w) × (b ≡ true)
both_true b q w e = (grind (arith, nat_tests), grind (arith, nat_tests))

true_both : (b : Bool) (q w : ℕ) → q < w → b ≡ true → (b && nat_lt q w) ≡ true
true_both b q w h e = grind (arith, nat_tests)

-- they are the numbers below 512 that it contains
pub numbers_of-members : (s : FinSet nat_cmp) (q : ℕ) → Contains (numbers_of s) q ↔ ((q < 512) × (contains s q ≡ true))
unfolding numbers_of
numbers_of-members s q = (
  λ one. both_true (contains s q) q 512 (sym (any_of_filter (contains s) 512 q) ∙ list_any-from_Contains nat_eq_equiv q _ one),
  λ both. Contains-from_any eqb-true q _ (any_of_filter (contains s) 512 q ∙ true_both (contains s q) q 512 both.0 both.1),
)

length-filter_range : (p : ℕ → Bool) (a w : ℕ) → length (filter p (range_with_len a w)) ≤ w
length-filter_range p a zero = omega arith
length-filter_range p a (suc w) = one_more (p a) a (filter p (range_with_len (a + 1) w)) w (length-filter_range p (a + 1) w) where
  one_more : (b : Bool) (x : ℕ) (xs : List ℕ) (n : ℕ) → length xs ≤ n → length (cond b (x ∷ xs) xs) ≤ suc n
  one_more true x xs n h = omega arith
  one_more false x xs n h = omega arith

-- there are at most 512
pub at_most_512_numbers : (s : FinSet nat_cmp) → length (numbers_of s) ≤ 512
unfolding numbers_of
at_most_512_numbers s = length-filter_range (contains s) 0 512

-- no number from 512 on is in the set of words
below_512 : (words : List ℕ) (q : ℕ) → contains (set_of_words words) q ≡ true → q < 512
below_512 words q e = in_range (has_bit_in words q) (sym (contains-set_where 512 (has_bit_in words) q) ∙ e) where
  in_range : (b : Bool) → (nat_lt q 512 && b) ≡ true → q < 512
  in_range b e = grind (arith, nat_tests)

-- the numbers of the set of words are its members
pub numbers_are_members : (words : List ℕ) (q : ℕ) → Contains (numbers_of (set_of_words words)) q ↔ (contains (set_of_words words) q ≡ true)
numbers_are_members words q = (
  λ one. ((numbers_of-members (set_of_words words) q).0 one).1,
  λ e. (numbers_of-members (set_of_words words) q).1 (below_512 words q e, e),
)
