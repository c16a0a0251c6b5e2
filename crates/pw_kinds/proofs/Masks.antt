-- Masks, bit by bit.
use Rattle.std.proofs.Common.{◌≡◌, ◌≢◌, ℕ, zero, suc, ℤ, pos, ◌+◌, ◌-◌, ◌*◌, ◌/◌, ◌%◌, ◌^◌, ◌<◌, ◌≤◌, ◌==◌, ◌&&◌, ◌||◌, inl, inr, ◌⊎◌, Bool, true, false, min, arith, refl, sym, ◌∙◌, ap, bit_and, bit_or, IsBitSet}
use Rattle.std.specs.Prelude.{if◌then◌else◌}
use Rattle.std.specs.Int.{bit_at, w128}
use Rattle.std.proofs.lemmas.Bool.{cases_lt, cases_eq, eqb-true, eq-eqb, or_cases}
use Rattle.std.proofs.lemmas.Nat.{pow_pos, shr_split, mod_below}
use Rattle.std.proofs.lemmas.Nat.Bits.{and_pow, bit_at-lt, bit_at-zero, bit_at_lowest, bit_at_and, bit_at_above, bit_at_cat_low, bit_at_cat_high, bit_at_ones, bit_at_set_same, bit_at_set_other, same_from_bits, same_from_bits_below}
use Rattle.std.proofs.Math.Nat.{zero-mul}
use Rattle.pw_kinds.specs.Places.{mask_of, mask_below}
use Rattle.pw_kinds.proofs.Order.{is_false}

-- a bit whose value in a number is not 0 is 1
bit_one : (b m n : ℕ) → b < 2 → n ≡ b * m → n ≢ 0 → b ≡ 1
bit_one b m n l e h = elim (cases_eq b 0) [
  | inl z ↦ absurd (h (e ∙ ap (λ k. k * m) z ∙ zero-mul m))
  | inr some ↦ omega arith
]

-- a bit that is set, as a test of it
pub set_one : (n k : ℕ) → IsBitSet n k → (bit_at n k == 1) ≡ true
set_one n k h = eq-eqb _ _ (bit_one (bit_at n k) (2 ^ k) (bit_and n (2 ^ k)) (bit_at-lt n k) (and_pow n k) h)

pub one_set : (n k : ℕ) → (bit_at n k == 1) ≡ true → IsBitSet n k
one_set n k e z =
    let one : bit_at n k ≡ 1 = eqb-true _ _ e in
    let value : bit_at n k * 2 ^ k ≡ 1 * 2 ^ k = ap (λ b. b * 2 ^ k) one in
    omega (arith, and_pow n k, pow_pos k, value, z)

-- two bits that pass the test alike are the same
pub same_bit : (a b : ℕ) → a < 2 → b < 2 → (a == 1) ≡ (b == 1) → a ≡ b
same_bit a b p q e = grind arith

-- a number below 2 to the k has no bit from k on
pub bit_below : (n k i : ℕ) → n < 2 ^ k → (bit_at n i == 1) ≡ true → i < k
bit_below n k i h e = elim (cases_lt i k) [
  | inl l ↦ l
  | inr g ↦ let none : bit_at n i ≡ 0 = bit_at_above n k i h g in let one : bit_at n i ≡ 1 = eqb-true _ _ e in absurd (omega arith)
]

lowest_bit : (b : Bool) → ((if b then 1 else 0) % 2 == 1) ≡ b
lowest_bit true = refl
lowest_bit false = refl

bit_step : (b : Bool) (n k rest : ℕ) → rest < 2 ^ n → n ≡ k → (bit_at ((if b then 1 else 0) * 2 ^ n + rest) k == 1) ≡ b
bit_step b n k rest below e =
    let from : n ≤ k = omega arith in
    let none : k - n ≡ 0 = omega arith in
    ap (λ x. x == 1) (bit_at_cat_high (if b then 1 else 0) n rest k below from ∙ ap (bit_at (if b then 1 else 0)) none ∙ bit_at_lowest (if b then 1 else 0)) ∙ lowest_bit b

-- bit k of the mask of a test is set exactly if place k passes
pub bit_of_mask : (p : ℤ → Bool) (n k : ℕ) → k < n → (bit_at (mask_of p n) k == 1) ≡ p (pos k)
unfolding mask_of
bit_of_mask p zero k h = absurd (omega arith)
bit_of_mask p (suc n) k h = elim (cases_lt k n) [
  | inl l ↦ ap (λ x. x == 1) (bit_at_cat_low (if p (pos n) then 1 else 0) n (mask_of p n) k l) ∙ bit_of_mask p n k l
  | inr g ↦ let e : n ≡ k = omega arith in bit_step (p (pos n)) n k (mask_of p n) (mask_below p n) e ∙ ap (λ i. p (pos i)) e
]

-- the mask in which every bit below n is set
pub all_bits : (m n k : ℕ) → m + 1 ≡ 2 ^ n → k < n → (bit_at m k == 1) ≡ true
all_bits m n k e h =
    let ones : m ≡ 2 ^ n - 1 = omega arith in
    eq-eqb _ _ (ap (λ x. bit_at x k) ones ∙ bit_at_ones n k h)

-- a mask with every bit below n set, and none other, is that one
pub all_bits_is : (m n full : ℕ) → m < 2 ^ n → full + 1 ≡ 2 ^ n → ((k : ℕ) → k < n → (bit_at m k == 1) ≡ true) → m ≡ full
all_bits_is m n full below e all =
    let full_below : full < 2 ^ n = omega arith in
    same_from_bits_below n m full below full_below (λ k h. same_bit _ _ (bit_at-lt m k) (bit_at-lt full k) (all k h ∙ sym (all_bits full n k e h)))

-- no bit of 0 is set
pub no_bits : (k : ℕ) → (bit_at 0 k == 1) ≡ false
no_bits k = ap (λ x. x == 1) (bit_at-zero k)

-- a mask with no bit set is 0
pub no_bits_is : (m : ℕ) → ((k : ℕ) → (bit_at m k == 1) ≡ false) → m ≡ 0
no_bits_is m none = same_from_bits m 0 (λ k. same_bit _ _ (bit_at-lt m k) (bit_at-lt 0 k) (none k ∙ sym (no_bits k)))

both_one : (x y : ℕ) → x < 2 → y < 2 → (min x y == 1) ≡ ((x == 1) && (y == 1))
both_one zero zero p q = refl
both_one zero (suc zero) p q = refl
both_one (suc zero) zero p q = refl
both_one (suc zero) (suc zero) p q = refl
both_one (suc (suc x)) y p q = absurd (omega arith)
both_one x (suc (suc y)) p q = absurd (omega arith)

-- the bits of both of two masks
pub bits_of_both : (a b k : ℕ) → (bit_at (bit_and a b) k == 1) ≡ ((bit_at a k == 1) && (bit_at b k == 1))
bits_of_both a b k = ap (λ x. x == 1) (bit_at_and a b k) ∙ both_one (bit_at a k) (bit_at b k) (bit_at-lt a k) (bit_at-lt b k)

and_one : (a b : Bool) → (a ≡ true → b ≡ true) → (a && b) ≡ a
and_one true b h = h refl
and_one false b h = refl

-- a mask with the bits of one of two, if the other has them, is the mask of both
pub inside_both : (a b : ℕ) → ((k : ℕ) → (bit_at a k == 1) ≡ true → (bit_at b k == 1) ≡ true) → bit_and a b ≡ a
inside_both a b inside = same_from_bits (bit_and a b) a (λ k. same_bit _ _ (bit_at-lt (bit_and a b) k) (bit_at-lt a k) (bits_of_both a b k ∙ and_one _ _ (inside k)))

-- a mask with no bit at or past n is below 2 to the n
pub high_bit : (m n : ℕ) → ((k : ℕ) → IsBitSet m k → k < n) → m < 2 ^ n
high_bit m n within =
    let low : m % 2 ^ n < 2 ^ n = mod_below m (2 ^ n) (pow_pos n) in
    let same : m ≡ m % 2 ^ n = same_from_bits m (m % 2 ^ n) (λ k. elim (cases_lt k n) [
      | inl l ↦ ap (λ x. bit_at x k) (sym (shr_split m n)) ∙ bit_at_cat_low (m / 2 ^ n) n (m % 2 ^ n) k l
      | inr g ↦ same_bit _ _ (bit_at-lt m k) (bit_at-lt (m % 2 ^ n) k) (is_false _ (λ e. let l : k < n = within k (one_set m k e) in omega arith) ∙ sym (is_false _ (λ e. let l : k < n = bit_below (m % 2 ^ n) n k low e in omega arith)))
    ]) in
    omega (arith, same, low)

or_true : (a b : Bool) → b ≡ true → (a || b) ≡ true
or_true true b e = refl
or_true false b e = e

or_false : (a b : Bool) → b ≡ false → (a || b) ≡ a
or_false true b e = refl
or_false false b e = e

-- a mask with one more bit
pub with_bit : (m k i : ℕ) → k < 128 → (bit_at (bit_or m (1 * 2 ^ k % 340282366920938463463374607431768211456)) i == 1) ≡ ((bit_at m i == 1) || (k == i))
with_bit m k i h = elim (cases_eq k i) [
  | inl same ↦
      eq-eqb _ _ (ap (bit_at (bit_or m (1 * 2 ^ k % 340282366920938463463374607431768211456))) (sym same) ∙ bit_at_set_same w128 m k h)
      ∙ sym (or_true (bit_at m i == 1) (k == i) (eq-eqb k i same))
  | inr apart ↦
      ap (λ x. x == 1) (bit_at_set_other w128 m k h i (λ e. apart (sym e)))
      ∙ sym (or_false (bit_at m i == 1) (k == i) (is_false _ (λ e. apart (eqb-true k i e))))
]

-- a mask below 2 to the n stays so with one more bit below n
pub with_bit_below : (m n k : ℕ) → m < 2 ^ n → k < n → k < 128 → bit_or m (1 * 2 ^ k % 340282366920938463463374607431768211456) < 2 ^ n
with_bit_below m n k below h l = high_bit _ n (λ i set. at i (or_cases (bit_at m i == 1) (k == i) (sym (with_bit m k i l) ∙ set_one _ i set))) where
  at : (i : ℕ) → ((bit_at m i == 1) ≡ true) ⊎ ((k == i) ≡ true) → i < n
  at i (inl e) = bit_below m n i below e
  at i (inr e) = let same : k ≡ i = eqb-true k i e in omega (arith, same, h)
