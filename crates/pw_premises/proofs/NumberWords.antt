-- The least and the greatest number of a set, from the bits of its words.
use Rattle.std.specs.Prelude.{◌≡◌, ◌≢◌, ℕ, ◌+◌, ◌*◌, ◌/◌, ◌%◌, ◌<◌, ◌≤◌, ◌^◌, Bool, true, false, ◌&&◌, nat_eq, nat_lt, List, slice_index}
use Rattle.std.specs.FinSet.{contains, empty}
use Rattle.std.specs.Int.{bit_at, trailing_zeros}
use Rattle.std.specs.Int.Count.{count_trailing_zeros}
use Rattle.std.proofs.Common.{refl, sym, ap, ◌∙◌, add-one, arith, w64, inl, inr}
use Rattle.std.proofs.Math.Nat.{div-eq_of_lt-le, pow-succ'}
use Rattle.std.proofs.lemmas.Bool.{cases_lt}
use Rattle.std.proofs.lemmas.Bool.Decides.{nat_tests}
use Rattle.std.proofs.lemmas.Nat.Bits.{bit_at-trailing_zeros, bit_at_above}
use Rattle.pw_premises.specs.Premises.{Premises, IsLeast, IsGreatest}
use Rattle.pw_premises.specs.inside.Words.{has_bit, has_bit_in, AreWords, set_of_words}
use Rattle.pw_premises.specs.PremiseSets.{contains-set_where, bit_at_place, set_where-alike, set_where-none}
use Rattle.pw_premises.proofs.PremiseWords.{has_bit-zero}

set_bit : (a n : ℕ) → bit_at a n ≡ 1 → has_bit a n ≡ true
unfolding has_bit
set_bit a n e = ap (λ b. nat_eq b 1) e

no_bit : (a n : ℕ) → bit_at a n ≡ 0 → has_bit a n ≡ false
unfolding has_bit
no_bit a n e = ap (λ b. nat_eq b 1) e

and_no : (b c : Bool) → c ≡ false → (b && c) ≡ false
and_no true c e = e
and_no false c e = refl

and_yes : (q : ℕ) (c : Bool) → q < 512 → c ≡ true → (nat_lt q 512 && c) ≡ true
and_yes q c h e = grind (arith, nat_tests)

-- a number is in the set if its bit is set, and otherwise not
absent : (words : List ℕ) (s : Premises) → set_of_words words ≡ s → (q : ℕ) → has_bit_in words q ≡ false → contains s q ≡ false
absent words s is q e = ap (λ t. contains t q) (sym is) ∙ contains-set_where 512 (has_bit_in words) q ∙ and_no (nat_lt q 512) (has_bit_in words q) e

pub present : (words : List ℕ) (s : Premises) → set_of_words words ≡ s → (i k : ℕ) → i < 8 → k < 64 → bit_at (slice_index words i) k ≡ 1 → contains s (i * 64 + k) ≡ true
present words s is i k h l e = ap (λ t. contains t (i * 64 + k)) (sym is) ∙ contains-set_where 512 (has_bit_in words) (i * 64 + k)
    ∙ and_yes (i * 64 + k) _ (omega arith) (bit_at_place words i k l ∙ set_bit _ k e)

-- a bit of a word that is 0 is not set
pub no_bit_of_zero : (words : List ℕ) (q : ℕ) → slice_index words (q / 64) ≡ 0 → has_bit_in words q ≡ false
no_bit_of_zero words q e = ap (λ w. has_bit w (q % 64)) e ∙ has_bit-zero (q % 64)

-- the lowest bit of the first word that is not 0 is the least number
pub least_in_words : (words : List ℕ) (s : Premises) → set_of_words words ≡ s → AreWords words → (i : ℕ) → i < 8
    → ((j : ℕ) → j < i → slice_index words j ≡ 0) → slice_index words i ≢ 0
    → IsLeast s (i * 64 + count_trailing_zeros 64 (slice_index words i))
least_in_words words s is fits i h before some =
    let word : ℕ = slice_index words i in
    let lowest = bit_at-trailing_zeros w64 word (omega arith) (fits.below i h) in
    let k : ℕ = trailing_zeros w64 word in
    record {
      below = omega (arith, lowest.0);
      holds = present words s is i k h lowest.0 lowest.1;
      least = λ q less. absent words s is q (elim (cases_lt (q / 64) i) [
        | inl l ↦ no_bit_of_zero words q (before (q / 64) l)
        | inr g ↦ let same : q / 64 ≡ i = omega (arith, lowest.0) in ap (λ j. has_bit (slice_index words j) (q % 64)) same ∙ no_bit word (q % 64) (lowest.2 (q % 64) (omega arith))
      ]);
    }

highest_bit : (a n : ℕ) → 2 ^ n ≤ a → a < 2 * 2 ^ n → bit_at a n ≡ 1
highest_bit a n low high = ap (λ k. k % 2) (div-eq_of_lt-le {k = 1} (2 ^ n) (omega arith) (omega arith))

above_highest : (a n q : ℕ) → a < 2 * 2 ^ n → n < q → bit_at a q ≡ 0
above_highest a n q high above =
    let doubled : 2 ^ (n + 1) ≡ 2 * 2 ^ n = ap (λ k. 2 ^ k) (add-one n) ∙ pow-succ' 2 n in
    bit_at_above a (n + 1) q (omega arith) (omega arith)

past : (words : List ℕ) (s : Premises) → set_of_words words ≡ s → (q : ℕ) → 512 ≤ q → contains s q ≡ false
past words s is q h = ap (λ t. contains t q) (sym is) ∙ contains-set_where 512 (has_bit_in words) q ∙ none (has_bit_in words q) where
  none : (c : Bool) → (nat_lt q 512 && c) ≡ false
  none c = grind (arith, nat_tests)

-- the highest bit of the last word that is not 0 is the greatest number
pub greatest_in_words : (words : List ℕ) (s : Premises) → set_of_words words ≡ s → (i n : ℕ) → i < 8
    → ((j : ℕ) → j < 8 → i < j → slice_index words j ≡ 0) → 2 ^ n ≤ slice_index words i → slice_index words i < 2 * 2 ^ n → n < 64
    → IsGreatest s (i * 64 + n)
greatest_in_words words s is i n h after low high narrow =
    let word : ℕ = slice_index words i in
    record {
      below = omega arith;
      holds = present words s is i n h narrow (highest_bit word n low high);
      greatest = λ q more. elim (cases_lt q 512) [
        | inl m ↦ absent words s is q (elim (cases_lt i (q / 64)) [
          | inl l ↦ no_bit_of_zero words q (after (q / 64) (omega arith) l)
          | inr g ↦ let same : q / 64 ≡ i = omega arith in ap (λ j. has_bit (slice_index words j) (q % 64)) same ∙ no_bit word (q % 64) (above_highest word n (q % 64) high (omega arith))
        ])
        | inr g ↦ past words s is q g
      ];
    }

-- words that are 0 hold no number
pub no_number : (words : List ℕ) (s : Premises) → set_of_words words ≡ s → ((j : ℕ) → j < 8 → slice_index words j ≡ 0) → s ≡ empty
no_number words s is none = sym is ∙ set_where-alike 512 (has_bit_in words) (λ _. false) (λ q h. no_bit_of_zero words q (none (q / 64) (omega arith))) ∙ set_where-none 512
