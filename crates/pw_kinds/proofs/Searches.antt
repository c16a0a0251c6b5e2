-- What a search over a stretch of whole numbers gives.
use Rattle.std.proofs.Common.{◌≡◌, ℕ, zero, suc, ℤ, pos, ◌+ℤ◌, ◌-ℤ◌, ◌≤ℤ◌, ◌<ℤ◌, Bool, true, false, Option, Some, None, arith, subst, inl, inr}
use Rattle.std.proofs.lemmas.Int.{ints, by_lt_z}
use Rattle.std.proofs.lemmas.Bool.{cases_Bool}
use Rattle.pw_kinds.specs.Ranges.{least, greatest}

abbrev pub IsLeast : (ℤ → Bool) → ℕ → ℤ → Option ℤ → Type 0
IsLeast p n v None = (y : ℤ) → v ≤ℤ y → y <ℤ (v +ℤ pos n) → p y ≡ false
IsLeast p n v (Some x) = (v ≤ℤ x) × (x <ℤ (v +ℤ pos n)) × (p x ≡ true) × ((y : ℤ) → v ≤ℤ y → y <ℤ x → p y ≡ false)

abbrev pub IsGreatest : (ℤ → Bool) → ℕ → ℤ → Option ℤ → Type 0
IsGreatest p n v None = (y : ℤ) → (v -ℤ pos n) <ℤ y → y ≤ℤ v → p y ≡ false
IsGreatest p n v (Some x) = ((v -ℤ pos n) <ℤ x) × (x ≤ℤ v) × (p x ≡ true) × ((y : ℤ) → x <ℤ y → y ≤ℤ v → p y ≡ false)

-- from a number up: it is the number, or above it
above : (P : ℤ → Type 0) (v y : ℤ) → P v → ((v +ℤ pos 1) ≤ℤ y → P y) → v ≤ℤ y → P y
above P v y here rest h = by_lt_z v y (λ l. rest (omega (arith, ints))) (λ l. let e : v ≡ y = omega (arith, ints) in subst P e here)

below : (P : ℤ → Type 0) (v y : ℤ) → P v → (y ≤ℤ (v -ℤ pos 1) → P y) → y ≤ℤ v → P y
below P v y here rest h = by_lt_z y v (λ l. rest (omega (arith, ints))) (λ l. let e : v ≡ y = omega (arith, ints) in subst P e here)

least_step : (p : ℤ → Bool) (n : ℕ) (v : ℤ) (r : Option ℤ) → p v ≡ false → IsLeast p n (v +ℤ pos 1) r → IsLeast p (suc n) v r
least_step p n v None here rest = λ y low high. above (λ z. p z ≡ false) v y here (λ l. rest y l (omega (arith, ints))) low
least_step p n v (Some x) here rest =
    let (low, high, passes, below_x) = rest in
    (omega (arith, ints), omega (arith, ints), passes, λ y l h. above (λ z. p z ≡ false) v y here (λ k. below_x y k h) l)

greatest_step : (p : ℤ → Bool) (n : ℕ) (v : ℤ) (r : Option ℤ) → p v ≡ false → IsGreatest p n (v -ℤ pos 1) r → IsGreatest p (suc n) v r
greatest_step p n v None here rest = λ y low high. below (λ z. p z ≡ false) v y here (λ l. rest y (omega (arith, ints)) l) high
greatest_step p n v (Some x) here rest =
    let (low, high, passes, above_x) = rest in
    (omega (arith, ints), omega (arith, ints), passes, λ y l h. below (λ z. p z ≡ false) v y here (λ k. above_x y l k) h)

pub least_is : (p : ℤ → Bool) (n : ℕ) (v : ℤ) → IsLeast p n v (least p n v)
unfolding least
least_is p zero v = λ y low high. absurd (omega (arith, ints))
least_is p (suc n) v = elim (cases_Bool (p v)) [
  | inl here ↦ rw here (omega (arith, ints), omega (arith, ints), here, λ y l h. absurd (omega (arith, ints)))
  | inr here ↦ rw here (least_step p n v _ here (least_is p n (v +ℤ pos 1)))
]

pub greatest_is : (p : ℤ → Bool) (n : ℕ) (v : ℤ) → IsGreatest p n v (greatest p n v)
unfolding greatest
greatest_is p zero v = λ y low high. absurd (omega (arith, ints))
greatest_is p (suc n) v = elim (cases_Bool (p v)) [
  | inl here ↦ rw here (omega (arith, ints), omega (arith, ints), here, λ y l h. absurd (omega (arith, ints)))
  | inr here ↦ rw here (greatest_step p n v _ here (greatest_is p n (v -ℤ pos 1)))
]
