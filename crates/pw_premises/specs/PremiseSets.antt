-- Laws of the set stored in words: what it contains, and that the words can be computed from the
-- set.
use Rattle.std.specs.Prelude.{◌≡◌, ℕ, zero, suc, ◌+◌, ◌*◌, ◌%◌, ◌<◌, ◌≤◌, ◌^◌, Bool, true, false}
use Rattle.std.specs.Prelude.{not, cond, ◌&&◌, ◌||◌, nat_eq, nat_lt, List, length, slice_index}
use Rattle.std.specs.List.{range_with_len, list_any}
use Rattle.std.specs.Ordering.{nat_cmp}
use Rattle.std.specs.Cmp.{nat_cmp_total, unsigned_tied, both_ways}
use Rattle.std.specs.FinSet.{FinSet, empty, insert, contains, union, difference, is_subset}
use Rattle.std.specs.FinSet.{from_list, same_set, contains-empty, contains-insert, contains-union}
use Rattle.std.specs.FinSet.{contains-difference, contains-is_subset, is_subset-contains}
use Rattle.std.specs.FinSet.{contains-from_list_nat, nat_cmp-IsAntisymmetric}
use Rattle.std.specs.Int.{bit_at}
use Rattle.std.proofs.Common.{refl, sym, ap, ◌∙◌, arith}
use Rattle.std.proofs.Math.Nat.{mod-eq_of_lt}
use Rattle.std.proofs.lemmas.Bool.{eqb-true}
use Rattle.std.proofs.lemmas.Bool.Decides.{nat_tests}
use Rattle.std.proofs.lemmas.Grind.{same_number_lists}
use Rattle.std.proofs.lemmas.List.FromFn.{get_or-map-range_with_len, length-map-range_with_len}
use Rattle.std.proofs.lemmas.Nat.{div-mul-add, mod-mul-add, mod-pow-add}
use Rattle.std.proofs.lemmas.Nat.Bits.{bit_at-lt}
use Rattle.pw_premises.specs.Premises.{most_premises}
use Rattle.pw_premises.specs.inside.Words.{set_where, has_bit, has_bit_in, number_where, AreWords}
use Rattle.pw_premises.specs.inside.Words.{set_of_words, word_of, words_of}
use Rattle.pw_premises.specs.inside.Words.{set_of_word, narrow_word_of}

-- a set with one more number, if the test passed
contains-if_inserted : (b : Bool) (s : FinSet nat_cmp) (w q : ℕ) →
    contains (cond b (insert s w) s) q ≡ ((b && nat_eq q w) || contains s q)
contains-if_inserted true s w q = contains-insert nat_cmp_total s w q
    ∙ ap (λ c. c || contains s q) (unsigned_tied q w)
contains-if_inserted false s w q = refl

below_next : (w q : ℕ) (a b : Bool) → (nat_eq q w ≡ true → a ≡ b) →
    ((a && nat_eq q w) || (nat_lt q w && b)) ≡ (nat_lt q (suc w) && b)
below_next w q a b same = grind (arith, nat_tests)

-- it contains the numbers below w that pass
pub contains-set_where : (w : ℕ) (p : ℕ → Bool) (q : ℕ) → contains (set_where w p) q
    ≡ (nat_lt q w && p q)
unfolding set_where
contains-set_where zero p q = contains-empty nat_cmp q ∙ grind (arith, nat_tests)
contains-set_where (suc w) p q = contains-if_inserted (p w) (set_where w p) w q
    ∙ ap (λ c. (p w && nat_eq q w) || c) (contains-set_where w p q)
    ∙ below_next w q (p w) (p q) (λ e. ap p (sym (eqb-true q w e)))

below_passes : (w q : ℕ) (a : Bool) → q < w → (nat_lt q w && a) ≡ a
below_passes w q a h = grind (arith, nat_tests)

past_none : (w q : ℕ) (a : Bool) → w ≤ q → (nat_lt q w && a) ≡ nat_lt q w
past_none w q a h = grind (arith, nat_tests)

-- below w it contains the numbers that pass
pub contains-set_where_below : (w : ℕ) (p : ℕ → Bool) (q : ℕ) → q < w → contains (set_where w p) q
    ≡ p q
contains-set_where_below w p q h = contains-set_where w p q ∙ below_passes w q (p q) h

-- from w on it contains nothing
pub contains-set_where_past : (w : ℕ) (p : ℕ → Bool) (q : ℕ) → w ≤ q → contains (set_where w p) q
    ≡ nat_lt q w
contains-set_where_past w p q h = contains-set_where w p q ∙ past_none w q (p q) h

-- a set is determined by what it contains
set_where-is : (w : ℕ) (p : ℕ → Bool) (s : FinSet nat_cmp) →
    ((q : ℕ) → (nat_lt q w && p q) ≡ contains s q) → set_where w p ≡ s
set_where-is w p s same = same_set nat_cmp_total nat_cmp-IsAntisymmetric _ _ (λ q.
    contains-set_where w p q ∙ same q)

and_alike : (w q : ℕ) (a b : Bool) → (q < w → a ≡ b) → (nat_lt q w && a) ≡ (nat_lt q w && b)
and_alike w q a b same = grind (arith, nat_tests)

-- tests that agree below w give the same set
pub set_where-alike : (w : ℕ) (p r : ℕ → Bool) → ((q : ℕ) → q < w → p q ≡ r q) → set_where w p
    ≡ set_where w r
set_where-alike w p r same = set_where-is w p _ (λ q. and_alike w q (p q) (r q) (same q)
    ∙ sym (contains-set_where w r q))

and_false : (a : Bool) → (a && false) ≡ false
and_false true = refl
and_false false = refl

-- if no number passes, the set is empty
pub set_where-none : (w : ℕ) → set_where w (λ _. false) ≡ empty
set_where-none w = set_where-is w _ empty (λ q. and_false _ ∙ sym (contains-empty nat_cmp q))

and_or : (a b c : Bool) → (a && (b || c)) ≡ ((a && b) || (a && c))
and_or true b c = refl
and_or false b c = refl

-- the set of the numbers that pass one of two tests is the union
pub set_where-or : (w : ℕ) (p r : ℕ → Bool) → set_where w (λ k. p k || r k)
    ≡ union (set_where w p) (set_where w r)
set_where-or w p r = set_where-is w _ _ (λ q. and_or (nat_lt q w) (p q) (r q)
    ∙ sym (contains-union nat_cmp_total _ _ q ∙ (λ i. contains-set_where w p q i
    || contains-set_where w r q i)))

and_and_not : (a b c : Bool) → (a && (b && not c)) ≡ ((a && b) && not (a && c))
and_and_not true b c = refl
and_and_not false b c = refl

-- the set of the numbers that pass the one test and not the other is the difference
pub set_where-and_not : (w : ℕ) (p r : ℕ → Bool) → set_where w (λ k. p k && not (r k))
    ≡ difference (set_where w p) (set_where w r)
set_where-and_not w p r = set_where-is w _ _ (λ q. and_and_not (nat_lt q w) (p q) (r q)
    ∙ sym (contains-difference nat_cmp_total _ _ q
    ∙ (λ i. contains-set_where w p q i && not (contains-set_where w r q i))))

one_below : (w n q : ℕ) → n < w → (nat_lt q w && nat_eq q n) ≡ (nat_eq q n || false)
one_below w n q h = grind (arith, nat_tests)

-- if only n passes, the set has only n
pub set_where-one : (w n : ℕ) → n < w → set_where w (λ k. nat_eq k n) ≡ insert empty n
set_where-one w n h = set_where-is w _ _ (λ q. one_below w n q h
    ∙ sym (contains-insert nat_cmp_total empty n q
    ∙ (λ i. unsigned_tied q n i || contains-empty nat_cmp q i)))

one_more_below : (w n q : ℕ) (b : Bool) → n < w →
    (nat_lt q w && (nat_eq q n || b)) ≡ (nat_eq q n || (nat_lt q w && b))
one_more_below w n q b h = grind (arith, nat_tests)

-- if n passes too, the set has n too
pub set_where-with : (w n : ℕ) (p : ℕ → Bool) → n < w → set_where w (λ k. nat_eq k n || p k)
    ≡ insert (set_where w p) n
set_where-with w n p h = set_where-is w _ _ (λ q. one_more_below w n q (p q) h
    ∙ sym (contains-insert nat_cmp_total (set_where w p) n q
    ∙ (λ i. unsigned_tied q n i || contains-set_where w p q i)))

one_of_range : (a n q : ℕ) → list_any (λ y. nat_eq y q) (range_with_len a n)
    ≡ (not (nat_lt q a) && nat_lt q (a + n))
one_of_range a zero q = grind (arith, nat_tests)
one_of_range a (suc n) q = ap (λ b. nat_eq a q || b) (one_of_range (a + 1) n q)
    ∙ grind (arith, nat_tests)

-- the list of the numbers below n gives the set of these
contains_numbers_below : (n q : ℕ) → contains (from_list {R = nat_cmp} (range_with_len 0 n)) q
    ≡ nat_lt q n
contains_numbers_below n q = contains-from_list_nat (range_with_len 0 n) q ∙ one_of_range 0 n q
    ∙ grind (arith, nat_tests)

-- if the numbers below n pass, the set has the numbers below n
pub set_where-below : (w n : ℕ) → n ≤ w → set_where w (λ k. nat_lt k n)
    ≡ from_list (range_with_len 0 n)
set_where-below w n h = set_where-is w _ _ (λ q. lt_both w n q h
    ∙ sym (contains_numbers_below n q)) where
      lt_both : (w n q : ℕ) → n ≤ w → (nat_lt q w && nat_lt q n) ≡ nat_lt q n
      lt_both w n q h = grind (arith, nat_tests)

and_right : (w q : ℕ) (a : Bool) → (nat_lt q w && a) ≡ true → (q < w) × (a ≡ true)
and_right w q a e = (grind (arith, nat_tests), grind (arith, nat_tests))

and_both : (w q : ℕ) (a : Bool) → q < w → a ≡ true → (nat_lt q w && a) ≡ true
and_both w q a h e = grind (arith, nat_tests)

-- the test that each number below w which passes p also passes r is the subset test
pub is_subset-set_where : (w v : ℕ) (p r : ℕ → Bool) (b : Bool) → w ≤ v
    → (b ≡ true → (q : ℕ) → q < w → p q ≡ true → r q ≡ true)
    → (((q : ℕ) → q < w → p q ≡ true → r q ≡ true) → b ≡ true)
    → b ≡ is_subset (set_where w p) (set_where v r)
is_subset-set_where w v p r b wide gives given = both_ways b _
    (λ passes. contains-is_subset nat_cmp_total _ _ (λ q one.
    let here : (q < w) × (p q ≡ true) = and_right w q (p q) (sym (contains-set_where w p q)
    ∙ one) in
    contains-set_where v r q
    ∙ and_both v q (r q) (omega (arith, here.0, wide)) (gives passes q here.0 here.1)))
    (λ all. given (λ q h one. (and_right v q (r q) (sym (contains-set_where v r q)
    ∙ is_subset-contains nat_cmp_total _ _ all q (contains-set_where w p q
    ∙ and_both w q (p q) h one))).1))

-- ---- the words of a set
if_bit : (b x m : ℕ) → b < 2 → cond (nat_eq b 1) (x + m) m ≡ b * x + m
if_bit b x m h = grind (arith, nat_tests)

same_cond : (a b : Bool) (x m n : ℕ) → a ≡ b → m ≡ n → cond a (x + m) m ≡ cond b (x + n) n
same_cond a b x m n p q = λ i. cond (p i) (x + q i) (q i)

-- the number of a test that the bits of n pass is n, up to w bits
number_where-bits : (w n : ℕ) (p : ℕ → Bool) → ((k : ℕ) → k < w → p k ≡ has_bit n k) →
    number_where w p ≡ n % 2 ^ w
unfolding number_where has_bit
number_where-bits zero n p same = omega arith
number_where-bits (suc w) n p same = same_cond _ _ _ _ _ (same w (omega arith))
    (number_where-bits w n p (λ k h. same k (omega arith)))
    ∙ if_bit (bit_at n w) (2 ^ w) (n % 2 ^ w) (bit_at-lt n w) ∙ sym (mod-pow-add n 1 w)
    ∙ ap (λ k. n % 2 ^ k) (omega arith)

-- bit k of word i is the bit of one number
pub bit_at_place : (words : List ℕ) (i k : ℕ) → k < 64 → has_bit_in words (i * 64 + k)
    ≡ has_bit (slice_index words i) k
bit_at_place words i k h = λ t. has_bit (slice_index words (div-mul-add i 64 k h t))
    (mod-mul-add i 64 k h t)

-- the set that words hold contains the numbers whose bit is set
contains_bit : (words : List ℕ) (i k : ℕ) → i < 8 → k < 64 →
    contains (set_of_words words) (i * 64 + k) ≡ has_bit (slice_index words i) k
contains_bit words i k h l = contains-set_where_below most_premises (has_bit_in words) (i * 64 + k)
    (omega arith) ∙ bit_at_place words i k l

-- a word can be computed from the set
word_again : (words : List ℕ) → AreWords words → (i : ℕ) → i < 8 → word_of (set_of_words words) i
    ≡ slice_index words i
word_again words h i l = number_where-bits 64 (slice_index words i) _ (λ k below.
    contains_bit words i k l below) ∙ mod-eq_of_lt (h.below i l)

-- and so can all words
pub words_again : (words : List ℕ) → AreWords words → words_of (set_of_words words) ≡ words
words_again words h = same_number_lists _ words (eight ∙ sym h.many) (λ i l. word i (omega (
  arith,
  l,
  eight,
))) where
  eight : length (words_of (set_of_words words)) ≡ 8
  eight = length-map-range_with_len (word_of (set_of_words words)) 0 8

  word : (i : ℕ) → i < 8 → slice_index (words_of (set_of_words words)) i ≡ slice_index words i
  word i l = get_or-map-range_with_len (word_of (set_of_words words)) 0 8 i i 0 l (omega arith)
      ∙ word_again words h i l

-- and so can the one word of a set of numbers below 64
pub narrow_word_again : (word : ℕ) → word < 2 ^ 64 → narrow_word_of (set_of_word word) ≡ word
narrow_word_again word h = number_where-bits 64 word _
    (contains-set_where_below 64 (has_bit word)) ∙ mod-eq_of_lt h
