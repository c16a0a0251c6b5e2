-- Sums over the numbers below one.
use Rattle.std.proofs.Common.{◌≡◌, ◌≢◌, ℕ, zero, suc, ◌+◌, ◌*◌, ◌<◌, ◌≤◌, eqb, sym, subst, arith, inl, inr}
use Rattle.std.proofs.lemmas.Bool.{cases_Bool, eqb-true, eqb-false}
use Rattle.pw_settle.specs.Calls.{sum_below}

-- if the numbers below have the same value, the sums are equal
pub sum_same : (n : ℕ) (f g : ℕ → ℕ) → ((i : ℕ) → i < n → g i ≡ f i) → sum_below n g ≡ sum_below n f
sum_same zero f g same = omega arith
sum_same (suc n) f g same = let rest = sum_same n f g (λ i below. same i (omega (arith, below))) in let last = same n (omega arith) in omega (arith, rest, last)

-- if a value falls by an amount, and all others stay, so does the sum
pub sum_falls : (n : ℕ) (f g : ℕ → ℕ) (one amount : ℕ) → one < n → g one + amount ≤ f one → ((i : ℕ) → i < n → i ≢ one → g i ≡ f i) →
    sum_below n g + amount ≤ sum_below n f
sum_falls zero f g one amount below falls same = absurd (omega (arith, below))
sum_falls (suc n) f g one amount below falls same =
    elim (cases_Bool (eqb n one)) [
      | inl is ↦
          let e : n ≡ one = eqb-true n one is in
          let rest = sum_same n f g (λ i less. same i (omega (arith, less)) (λ also. omega (arith, less, also, e))) in
          let here : g n + amount ≤ f n = subst (λ (k : ℕ). g k + amount ≤ f k) (sym e) falls in
          omega (arith, rest, here)
      | inr other ↦
          let ne : n ≢ one = eqb-false n one other in
          let rest = sum_falls n f g one amount (omega (arith, below, ne)) falls (λ i less. same i (omega (arith, less))) in
          let last = same n (omega arith) ne in
          omega (arith, rest, last)
    ]

-- a sum is at most the sum of two others if it is so at each number
pub sum_most : (n : ℕ) (f g h : ℕ → ℕ) → ((i : ℕ) → i < n → f i ≤ g i + h i) → sum_below n f ≤ sum_below n g + sum_below n h
sum_most zero f g h most = omega arith
sum_most (suc n) f g h most = let rest = sum_most n f g h (λ i below. most i (omega (arith, below))) in let last = most n (omega arith) in omega (arith, rest, last)

-- and at most the number times a bound
pub sum_bound : (n bound : ℕ) (f : ℕ → ℕ) → ((i : ℕ) → i < n → f i ≤ bound) → sum_below n f ≤ n * bound
sum_bound zero bound f most = omega arith
sum_bound (suc n) bound f most = let rest = sum_bound n bound f (λ i below. most i (omega (arith, below))) in let last = most n (omega arith) in omega (arith, rest, last)
