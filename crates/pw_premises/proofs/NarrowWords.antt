-- What the operations on one word do to the set that the word holds.
use Rattle.std.specs.Prelude.{◌≡◌, ◌≢◌, ℕ, zero, suc, ◌+◌, ◌-◌, ◌*◌, ◌/◌, ◌%◌, ◌<◌, ◌≤◌, ◌^◌, Bool, true, false, ◌&&◌, nat_eq, nat_lt, List, [], ◌∷◌, slice_index}
use Rattle.std.specs.FinSet.{empty, union, contains, is_subset, same_set, nat_cmp-IsAntisymmetric}
use Rattle.std.specs.Int.{bit_at, bit_not, trailing_zeros}
use Rattle.std.specs.Cmp.{both_ways, nat_cmp_total}
use Rattle.std.proofs.Common.{refl, sym, ap, ◌∙◌, arith, bit_and, bit_or, w64, inl, inr, ◌⊎◌}
use Rattle.std.proofs.lemmas.Bool.{cases_eq, cases_lt, eqb-true, eq-eqb}
use Rattle.std.proofs.lemmas.Bool.Decides.{nat_tests}
use Rattle.std.proofs.lemmas.Nat.{and_le_l, pow_pos, or_lt}
use Rattle.std.proofs.lemmas.Nat.Bits.{bit_at-lt, bit_at-zero, bit_at-trailing_zeros, same_from_bits_below}
use Rattle.pw_premises.specs.Premises.{Premises}
use Rattle.pw_premises.specs.inside.Words.{has_bit, has_bit_in, AreWords, set_where, set_of_word, set_of_words, narrow_word_of}
use Rattle.pw_premises.specs.PremiseSets.{contains-set_where, set_where-alike, set_where-none, set_where-or, is_subset-set_where, narrow_word_again}
use Rattle.pw_premises.specs.PremiseSubsets.{has_same_numbers, same_numbers_equal, and_not_false, false_and_not}
use Rattle.pw_premises.proofs.PremiseWords.{has_bit-or, has_bit-and_not, has_bit-zero, of_eight, first_fits, no_left, no_right}
use Rattle.pw_premises.proofs.NumberWords.{present, no_bit_of_zero}

-- ---- one word
pub none_in_word : set_of_word 0 ≡ empty
none_in_word = set_where-alike 64 _ _ (λ q _. has_bit-zero q) ∙ set_where-none 64

pub join_fits_word : (a b : ℕ) → a < 18446744073709551616 → b < 18446744073709551616 → bit_or a b < 18446744073709551616
join_fits_word a b h k = or_lt 64 a b h k

pub join_in_word : (a b : ℕ) → set_of_word (bit_or a b) ≡ union (set_of_word a) (set_of_word b)
join_in_word a b = set_where-alike 64 _ _ (λ q _. has_bit-or a b q) ∙ set_where-or 64 (has_bit a) (has_bit b)

-- two words are the same exactly if they hold the same set
pub same_word : (a b : ℕ) → a < 18446744073709551616 → b < 18446744073709551616 → nat_eq a b ≡ has_same_numbers (set_of_word a) (set_of_word b)
same_word a b h k = both_ways _ _
    (λ e. (same_numbers_equal _ _).1 (ap set_of_word (eqb-true a b e)))
    (λ e. eq-eqb a b (sym (narrow_word_again a h) ∙ ap narrow_word_of ((same_numbers_equal _ _).0 e) ∙ narrow_word_again b k))

-- the word of a set is the one that holds it
pub narrow_word_of_set : (word : ℕ) (s : Premises) → word < 18446744073709551616 → set_of_word word ≡ s → narrow_word_of s ≡ word
narrow_word_of_set word s h is = sym (ap narrow_word_of is) ∙ narrow_word_again word h

-- ---- subsets
no_bit : (a : ℕ) → a < 2 → nat_eq a 1 ≡ false → a ≡ 0
no_bit a h e = grind (arith, nat_tests)

-- a word with no bit is 0
zero_from_bits : (n : ℕ) → n < 2 ^ 64 → ((q : ℕ) → q < 64 → has_bit n q ≡ false) → n ≡ 0
unfolding has_bit
zero_from_bits n h none = same_from_bits_below 64 n 0 h (pow_pos 64) (λ q below. no_bit (bit_at n q) (bit_at-lt n q) (none q below) ∙ sym (bit_at-zero q))

-- no bit of a is left without those of b exactly if the set of a is a subset of each set that has the numbers of b below 64
word_within : (a b v : ℕ) (r : ℕ → Bool) → a < 2 ^ 64 → b < 2 ^ 64 → 64 ≤ v → ((k : ℕ) → k < 64 → r k ≡ has_bit b k)
    → nat_eq (bit_and a (bit_not w64 b)) 0 ≡ is_subset (set_of_word a) (set_where v r)
word_within a b v r h k wide same = is_subset-set_where 64 v (has_bit a) r _ wide
    (λ e q below one. same q below ∙ and_not_false _ _ (sym (has_bit-and_not a b q k below) ∙ ap (λ n. has_bit n q) (eqb-true _ _ e) ∙ has_bit-zero q) one)
    (λ all. eq-eqb _ _ (zero_from_bits _ (omega (arith, h, and_le_l a (bit_not w64 b)))
    (λ q below. has_bit-and_not a b q k below ∙ false_and_not _ _ (λ one. sym (same q below) ∙ all q below one))))

pub subset_of_word : (a b : ℕ) → a < 18446744073709551616 → b < 18446744073709551616
    → nat_eq (bit_and a (18446744073709551615 - b)) 0 ≡ is_subset (set_of_word a) (set_of_word b)
subset_of_word a b h k = word_within a b 64 (has_bit b) h k (omega arith) (λ _ _. refl)

-- the numbers below 64 are in the first word
in_first_word : (words : List ℕ) (q : ℕ) → q < 64 → has_bit_in words q ≡ has_bit (slice_index words 0) q
in_first_word words q h =
    let first : q / 64 ≡ 0 = omega arith in
    let place : q % 64 ≡ q = omega arith in
    λ t. has_bit (slice_index words (first t)) (place t)

pub subset_of_words : (a : ℕ) (words : List ℕ) → a < 18446744073709551616 → AreWords words
    → nat_eq (bit_and a (18446744073709551615 - slice_index words 0)) 0 ≡ is_subset (set_of_word a) (set_of_words words)
subset_of_words a words h fits = word_within a (slice_index words 0) 512 (has_bit_in words) h (fits.below 0 (omega arith)) (omega arith) (in_first_word words)

-- ---- eight words of which all but the first are 0
passes_both : (q : ℕ) (c : Bool) → q < 64 → (nat_lt q 64 && c) ≡ (nat_lt q 512 && c)
passes_both q c h = grind (arith, nat_tests)

passes_neither : (q : ℕ) (b c : Bool) → 64 ≤ q → (q < 512 → c ≡ false) → (nat_lt q 64 && b) ≡ (nat_lt q 512 && c)
passes_neither q b c h none = grind (arith, nat_tests)

-- they hold what the first holds
first_word_is : (words : List ℕ) → ((i : ℕ) → 0 < i → i < 8 → slice_index words i ≡ 0) → set_of_word (slice_index words 0) ≡ set_of_words words
first_word_is words zeros = same_set nat_cmp_total nat_cmp-IsAntisymmetric _ _ (λ q.
    contains-set_where 64 (has_bit (slice_index words 0)) q ∙ at q (cases_lt q 64) ∙ sym (contains-set_where 512 (has_bit_in words) q)) where
      at : (q : ℕ) → (q < 64) ⊎ (64 ≤ q) → (nat_lt q 64 && has_bit (slice_index words 0) q) ≡ (nat_lt q 512 && has_bit_in words q)
      at q (inl low) = ap (λ b. nat_lt q 64 && b) (sym (in_first_word words q low)) ∙ passes_both q (has_bit_in words q) low
      at q (inr high) = passes_neither q _ _ high (λ h. no_bit_of_zero words q (zeros (q / 64) (omega arith) (omega arith)))

-- what holds at 1 to 7 holds at each place past the first
of_seven : (p : ℕ → Type 0) → p 1 → p 2 → p 3 → p 4 → p 5 → p 6 → p 7 → (i : ℕ) → 0 < i → i < 8 → p i
of_seven p b c d e f g h i l m = of_eight (λ i. 0 < i → p i) (λ l. absurd (omega (arith, l))) (λ _. b) (λ _. c) (λ _. d) (λ _. e) (λ _. f) (λ _. g) (λ _. h) i m l

abbrev widened : ℕ → List ℕ
widened word = word ∷ 0 ∷ 0 ∷ 0 ∷ 0 ∷ 0 ∷ 0 ∷ 0 ∷ []

zeros_in_widened : (word i : ℕ) → 0 < i → i < 8 → slice_index (widened word) i ≡ 0
zeros_in_widened word = of_seven (λ i. slice_index (widened word) i ≡ 0) refl refl refl refl refl refl refl

pub widened_in_words : (word : ℕ) → set_of_words (widened word) ≡ set_of_word word
widened_in_words word = sym (first_word_is (widened word) (zeros_in_widened word))

pub widened_fits : (word : ℕ) → word < 18446744073709551616 → AreWords (widened word)
widened_fits word h = first_fits word 0 0 0 0 0 0 0 h (omega arith) (omega arith) (omega arith) (omega arith) (omega arith) (omega arith) (omega arith)

abbrev or_of_rest : (ℕ → ℕ) → ℕ
or_of_rest f = bit_or (bit_or (bit_or (bit_or (bit_or (bit_or (f 1) (f 2)) (f 3)) (f 4)) (f 5)) (f 6)) (f 7)

-- words past the first are all 0 where their union is
rest_is_zero : (f : ℕ → ℕ) → or_of_rest f ≡ 0 → (i : ℕ) → 0 < i → i < 8 → f i ≡ 0
rest_is_zero f e =
    let e6 = no_left _ _ e in
    let e5 = no_left _ _ e6 in
    let e4 = no_left _ _ e5 in
    let e3 = no_left _ _ e4 in
    let e2 = no_left _ _ e3 in
    of_seven (λ i. f i ≡ 0) (no_left _ _ e2) (no_right _ _ e2) (no_right _ _ e3) (no_right _ _ e4) (no_right _ _ e5) (no_right _ _ e6) (no_right _ _ e)

zero_of_rest : (f : ℕ → ℕ) → ((i : ℕ) → i < 7 → f (i + 1) ≡ 0) → or_of_rest f ≡ 0
zero_of_rest f none = λ t. bit_or (bit_or (bit_or (bit_or (bit_or (bit_or (none 0 (omega arith) t) (none 1 (omega arith) t)) (none 2 (omega arith) t)) (none 3 (omega arith) t)) (none 4 (omega arith) t)) (none 5 (omega arith) t)) (none 6 (omega arith) t)

-- of n words past the first all are 0, or one is not
one_of_rest : (f : ℕ → ℕ) (n : ℕ) → ((i : ℕ) → i < n → f (i + 1) ≡ 0) ⊎ ((i : ℕ) × (i < n) × (f (i + 1) ≢ 0))
one_of_rest f zero = inl (λ i h. absurd (omega arith))
one_of_rest f (suc n) = elim (one_of_rest f n) [
  | inl none ↦ elim (cases_eq (f (n + 1)) 0) [
    | inl e ↦ inl (λ i h. elim (cases_lt i n) [
      | inl l ↦ none i l
      | inr g ↦ let same : i ≡ n = omega (arith, h, g) in ap (λ j. f (j + 1)) same ∙ e
    ])
    | inr h ↦ inr (n, omega arith, h)
  ]
  | inr one ↦ inr (one.0, omega (arith, one.1), one.2)
]

-- they hold a set of numbers below 64 if those past the first are 0
pub narrow_of_words : (words : List ℕ) → or_of_rest (slice_index words) ≡ 0 → set_of_word (slice_index words 0) ≡ set_of_words words
narrow_of_words words e = first_word_is words (rest_is_zero (slice_index words) e)

-- and otherwise a number from 64 on
pub past_first_word : (words : List ℕ) → AreWords words → or_of_rest (slice_index words) ≢ 0 → (p : ℕ) × (64 ≤ p) × (contains (set_of_words words) p ≡ true)
past_first_word words fits some = elim (one_of_rest (slice_index words) 7) [
  | inl none ↦ absurd (some (zero_of_rest (slice_index words) none))
  | inr one ↦ in_word (one.0 + 1) (omega arith) (omega (arith, one.1)) one.2
] where
  in_word : (i : ℕ) → 0 < i → i < 8 → slice_index words i ≢ 0 → (p : ℕ) × (64 ≤ p) × (contains (set_of_words words) p ≡ true)
  in_word i l h other =
      let word : ℕ = slice_index words i in
      let lowest = bit_at-trailing_zeros w64 word (omega arith) (fits.below i h) in
      let k : ℕ = trailing_zeros w64 word in
      (i * 64 + k, omega arith, present words (set_of_words words) refl i k h lowest.0 lowest.1)
