-- What an interval says about a number: a set of whole numbers in range, given by its test.
use Rattle.std.specs.Prelude.{◌≡◌, ℕ, ℤ, pos, neg_ℤ, ◌≤ℤ◌, Bool, true, false, ◌&&◌, Option, Some}
use Rattle.std.specs.Prelude.{refl}
use Rattle.std.specs.Int.Signed.{le_z}
use Rattle.pw_kinds.specs.declared.interval.Interval.{Interval}
use Rattle.pw_kinds.specs.Ranges.{least, greatest}
use Rattle.pw_kinds.specs.Ranges.{interval_lowest, interval_highest, interval_numbers}
use Rattle.pw_kinds.specs.Ranges.{is_in_interval_range, IsInIntervalRange}
use Rattle.pw_kinds.specs.Ranges.{empty_span, checked_span}

-- whether a number is still possible
abbrev pub allows : Interval → ℤ → Bool
allows i v = le_z i.lo v && le_z v i.hi

-- no number is possible
abbrev pub IsEmpty : Interval → Type 0
IsEmpty i = (v : ℤ) → allows i v ≡ false

-- every number in range is possible
abbrev pub IsWhole : Interval → Type 0
IsWhole i = (v : ℤ) → is_in_interval_range v ≡ true → allows i v ≡ true

-- each number that is possible in the first is possible in the second
abbrev pub IsWithin : Interval → Interval → Type 0
IsWithin i j = (v : ℤ) → allows i v ≡ true → allows j v ≡ true

-- they leave the same numbers possible
abbrev pub SameValues : Interval → Interval → Type 0
SameValues i j = (v : ℤ) → allows i v ≡ allows j v

-- exactly the numbers from lo to hi are possible
abbrev pub IsFromTo : Interval → ℤ → ℤ → Type 0
IsFromTo i lo hi = (v : ℤ) → allows i v ≡ (le_z lo v && le_z v hi)

-- two numbers that an interval may have as its least and its greatest: in order and in range
abbrev pub AreEnds : ℤ → ℤ → Type 0
AreEnds lo hi = (lo ≤ℤ hi) × IsInIntervalRange lo × IsInIntervalRange hi

-- the interval that leaves no number possible, in the form in which its ends lie within those of any other
abbrev pub empty : Interval
empty = record { lo = interval_highest; hi = interval_lowest; span = empty_span }

-- the interval from lo to hi if the test of its ends passes, and otherwise the empty one
unfoldable pub checked : (lo hi : ℤ) (b : Bool) →
    (le_z interval_lowest lo && le_z lo hi && le_z hi interval_highest) ≡ b → Interval
checked lo hi true e = record { lo = lo; hi = hi; span = checked_span lo hi e }
checked lo hi false e = empty

-- the interval from lo to hi if these are its ends, and otherwise the empty one
abbrev pub from_to : ℤ → ℤ → Interval
from_to lo hi = checked lo hi _ refl

-- the interval from lo to hi, and the one from -lo to hi
abbrev pub range : ℕ → ℕ → Interval
range lo hi = from_to (pos lo) (pos hi)

abbrev pub from_minus_to : ℕ → ℕ → Interval
from_minus_to lo hi = from_to (neg_ℤ (pos lo)) (pos hi)

-- the interval from one number to the other if both exist, and otherwise the empty one
abbrev pub between : Option ℤ → Option ℤ → Interval
between (Some lo) (Some hi) = from_to lo hi
between _ _ = empty

-- the smallest interval in which every number in range that passes is possible
unfoldable pub closest : (ℤ → Bool) → Interval
closest p = between (least p interval_numbers interval_lowest)
    (greatest p interval_numbers interval_highest)

-- the interval in which every number in range is possible
abbrev pub whole : Interval
whole = closest (λ v. true)

-- the merge of two: it leaves possible what both leave possible
abbrev pub meet_of : Interval → Interval → Interval
meet_of i j = closest (λ v. allows i v && allows j v)

-- the least possible number, if there is one
unfoldable pub least_of : Interval → Option ℤ
least_of i = least (allows i) interval_numbers interval_lowest

-- the greatest possible number, if there is one
unfoldable pub greatest_of : Interval → Option ℤ
greatest_of i = greatest (allows i) interval_numbers interval_highest

-- a number that is possible, and none below it is
abbrev pub IsLeastOf : Interval → ℤ → Type 0
IsLeastOf i n = (allows i n ≡ true) × ((v : ℤ) → allows i v ≡ true → n ≤ℤ v)

-- a number that is possible, and none above it is
abbrev pub IsGreatestOf : Interval → ℤ → Type 0
IsGreatestOf i n = (allows i n ≡ true) × ((v : ℤ) → allows i v ≡ true → v ≤ℤ n)

-- a test passes at both ends, and nowhere outside them
pub record PassesFromTo (p : ℤ → Bool) (lo hi : ℤ) : Type 0 where
  pub at_lo : p lo ≡ true
  pub at_hi : p hi ≡ true
  pub inside : (v : ℤ) → p v ≡ true → (lo ≤ℤ v) × (v ≤ℤ hi)

-- the smallest interval in which every number in range that passes is possible, in words: it allows
-- each of them, and is within any interval that does
pub record IsClosest (p : ℤ → Bool) (i : Interval) : Type 0 where
  pub holds : (v : ℤ) → is_in_interval_range v ≡ true → p v ≡ true → allows i v ≡ true
  pub smallest : (j : Interval) → ((v : ℤ) → is_in_interval_range v ≡ true → p v ≡ true → allows j v
      ≡ true) → IsWithin i j
