-- The sign of the bits of two whole numbers together.
use Rattle.std.proofs.Common.{◌≡◌, ℕ, ℤ, inl, inr, nat_lt, pos, negsuc, suc, ◌≤ℤ◌, ◌<ℤ◌, ◌<◌, ◌≤◌, ◌-◌, ◌^◌, of_z, to_z, w64, bit_or, arith, sym, subst}
use Rattle.std.proofs.Math.Facts.{to_z-neg}
use Rattle.std.proofs.lemmas.Bool.{cases_Bool, ltb-false, ltb-true}
use Rattle.std.proofs.lemmas.Int.{ints}
use Rattle.std.proofs.lemmas.Nat.{or_lt, le_or_l, le_or_r}

-- far inside 64 bits
abbrev pub IsSmall : ℤ → Type 0
IsSmall z = (negsuc 9999999 ≤ℤ z) × (z ≤ℤ pos 10000000)

-- the bits of two numbers together
abbrev pub together : ℤ → ℤ → ℤ
together x y = to_z w64 (bit_or (of_z w64 x) (of_z w64 y))

-- if neither is negative, both together are not
pub neither_negative : (x y : ℤ) → IsSmall x → IsSmall y → pos 0 ≤ℤ x → pos 0 ≤ℤ y → pos 0 ≤ℤ together x y
neither_negative x y (x_low, x_high) (y_low, y_high) p q =
    let below : bit_or (of_z w64 x) (of_z w64 y) < 2 ^ 63 = or_lt 63 (of_z w64 x) (of_z w64 y) (omega (arith, ints)) (omega (arith, ints)) in
    omega (arith, ints, below)

-- 64 bits of which the first is set are those of a negative number
first_bit_set : (n : ℕ) → 9223372036854775808 ≤ n → n < 18446744073709551616 → to_z w64 n <ℤ pos 0
first_bit_set n set fits =
    let k : ℕ = 18446744073709551615 - n in
    let e : to_z w64 (18446744073709551616 - suc k) ≡ negsuc k = to_z-neg w64 k (omega (arith, set, fits)) in
    let same : 18446744073709551616 - suc k ≡ n = omega (arith, fits) in
    subst (λ (m : ℕ). to_z w64 m <ℤ pos 0) same (subst (λ (z : ℤ). z <ℤ pos 0) (sym e) (omega (arith, ints)))

-- and if both together are not, neither is
pub not_negative : (x y : ℤ) → IsSmall x → IsSmall y → pos 0 ≤ℤ together x y → (pos 0 ≤ℤ x) × (pos 0 ≤ℤ y)
not_negative x y (x_low, x_high) (y_low, y_high) h =
    let below : bit_or (of_z w64 x) (of_z w64 y) < 2 ^ 64 = or_lt 64 (of_z w64 x) (of_z w64 y) (omega (arith, ints)) (omega (arith, ints)) in
    let one : of_z w64 x ≤ bit_or (of_z w64 x) (of_z w64 y) = le_or_l (of_z w64 x) (of_z w64 y) in
    let other : of_z w64 y ≤ bit_or (of_z w64 x) (of_z w64 y) = le_or_r (of_z w64 x) (of_z w64 y) in
    let unset : bit_or (of_z w64 x) (of_z w64 y) < 9223372036854775808 =
    elim (cases_Bool (nat_lt (bit_or (of_z w64 x) (of_z w64 y)) 9223372036854775808)) [
      | inl is ↦ ltb-true (bit_or (of_z w64 x) (of_z w64 y)) 9223372036854775808 is
      | inr not ↦
          let set : 9223372036854775808 ≤ bit_or (of_z w64 x) (of_z w64 y) = ltb-false (bit_or (of_z w64 x) (of_z w64 y)) 9223372036854775808 not in
          absurd (omega (arith, ints, h, first_bit_set (bit_or (of_z w64 x) (of_z w64 y)) set below))
    ] in
    (omega (arith, ints, unset, one), omega (arith, ints, unset, other))
