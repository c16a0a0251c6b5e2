-- Which whole numbers an interval may speak of, and which ones an exact value; the ends of
-- intervals; and the first number of a stretch that passes a test.
use Rattle.std.specs.Prelude.{◌≡◌, ℕ, ℤ, pos, negsuc, ◌≤ℤ◌, Bool, true, ◌&&◌, zero, suc, ◌+◌, cond}
use Rattle.std.specs.Prelude.{Option, Some, None, ◌+ℤ◌, ◌-ℤ◌, ◌<ℤ◌, refl}
use Rattle.std.specs.Int.Signed.{le_z}
use Rattle.std.proofs.Common.{arith}
use Rattle.std.proofs.lemmas.Int.{ints}

-- the least and the greatest number of intervals, -1,000,000 and 1,000,000
abbrev pub interval_lowest : ℤ
interval_lowest = negsuc 999999

abbrev pub interval_highest : ℤ
interval_highest = pos 1000000

-- the number of numbers from the least to the greatest
abbrev pub interval_numbers : ℕ
interval_numbers = 2000001

-- whether a number is one of them
abbrev pub is_in_interval_range : ℤ → Bool
is_in_interval_range n = le_z interval_lowest n && le_z n interval_highest

abbrev pub IsInIntervalRange : ℤ → Type 0
IsInIntervalRange n = (interval_lowest ≤ℤ n) × (n ≤ℤ interval_highest)

-- the least and the greatest exact number, -1,000,000,000 and 1,000,000,000
abbrev pub exact_lowest : ℤ
exact_lowest = negsuc 999999999

abbrev pub exact_highest : ℤ
exact_highest = pos 1000000000

-- the number of numbers from the least to the greatest
abbrev pub exact_numbers : ℕ
exact_numbers = 2000000001

-- whether a number is one of them
abbrev pub is_in_exact_range : ℤ → Bool
is_in_exact_range n = le_z exact_lowest n && le_z n exact_highest

abbrev pub IsInExactRange : ℤ → Type 0
IsInExactRange n = (exact_lowest ≤ℤ n) × (n ≤ℤ exact_highest)

pub exact_range_low : (n : ℤ) → is_in_exact_range n ≡ true → exact_lowest ≤ℤ n
exact_range_low n e = grind (arith, ints)

pub exact_range_high : (n : ℤ) → is_in_exact_range n ≡ true → n ≤ℤ exact_highest
exact_range_high n e = grind (arith, ints)

-- the least of the n numbers from v up that passes
unfoldable pub least : (ℤ → Bool) → ℕ → ℤ → Option ℤ
least p zero v = None
least p (suc n) v = cond (p v) (Some v) (least p n (v +ℤ pos 1))

-- the greatest of the n numbers from v down that passes
unfoldable pub greatest : (ℤ → Bool) → ℕ → ℤ → Option ℤ
greatest p zero v = None
greatest p (suc n) v = cond (p v) (Some v) (greatest p n (v -ℤ pos 1))

-- the number of the n numbers from v up that pass
unfoldable pub count : (ℤ → Bool) → ℕ → ℤ → ℕ
count p zero v = 0
count p (suc n) v = cond (p v) 1 0 + count p n (v +ℤ pos 1)

-- the ends of an interval: in range, and in one form if no number lies between them
pub record IsSpan (lo hi : ℤ) : Type 0 where
  pub low : interval_lowest ≤ℤ lo
  pub high : hi ≤ℤ interval_highest
  pub empty : hi <ℤ lo → (lo ≡ interval_highest) × (hi ≡ interval_lowest)

pub empty_span : IsSpan interval_highest interval_lowest
empty_span = record {
  low = omega (arith, ints);
  high = omega (arith, ints);
  empty = λ h.
      (refl, refl);
}

pub checked_span : (lo hi : ℤ) → (le_z interval_lowest lo && le_z lo hi && le_z hi interval_highest)
    ≡ true → IsSpan lo hi
checked_span lo hi e = record {
  low = grind (arith, ints);
  high = grind (arith, ints);
  empty = λ h.
      absurd (grind (arith, ints));
}
