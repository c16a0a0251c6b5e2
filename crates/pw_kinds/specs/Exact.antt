-- What an exact value says about a number: a set of whole numbers in range, given by its test.
use Rattle.std.specs.Prelude.{◌≡◌, ℤ, Bool, true, false, ◌&&◌, Option, Some, refl, if◌then◌else◌}
use Rattle.std.specs.Ordering.{int_eq}
use Rattle.pw_kinds.specs.declared.exact.Exact.{Exact}
use Rattle.pw_kinds.specs.declared.exact.Exact.TheVariants.{Any, One, Empty}
use Rattle.pw_kinds.specs.Ranges.{least, greatest}
use Rattle.pw_kinds.specs.Ranges.{exact_lowest, exact_highest, exact_numbers, is_in_exact_range}
use Rattle.pw_kinds.specs.Ranges.{exact_range_low, exact_range_high}

-- whether a number is still possible
abbrev pub allows : Exact → ℤ → Bool
allows Any v = is_in_exact_range v
allows (One n) v = int_eq v n.value
allows Empty v = false

-- no number is possible
abbrev pub IsEmpty : Exact → Type 0
IsEmpty e = (v : ℤ) → allows e v ≡ false

-- every number in range is possible
abbrev pub IsAny : Exact → Type 0
IsAny e = (v : ℤ) → is_in_exact_range v ≡ true → allows e v ≡ true

-- exactly one number is possible, this one
abbrev pub IsOne : Exact → ℤ → Type 0
IsOne e n = (v : ℤ) → allows e v ≡ int_eq v n

-- they leave the same numbers possible
abbrev pub SameValues : Exact → Exact → Type 0
SameValues e f = (v : ℤ) → allows e v ≡ allows f v

-- each number that is possible in the first is possible in the second
abbrev pub IsWithin : Exact → Exact → Type 0
IsWithin e f = (v : ℤ) → allows e v ≡ true → allows f v ≡ true

-- a number if the test of its range passes, and otherwise no number
unfoldable pub checked : (n : ℤ) (b : Bool) → is_in_exact_range n ≡ b → Exact
checked n true e = One (record {
  value = n;
  at_least = exact_range_low n e;
  at_most =
      exact_range_high n e;
})
checked n false e = Empty

-- only this number if it is in range, and otherwise no number
abbrev pub one : ℤ → Exact
one n = checked n _ refl

-- the exact value if these are the least and the greatest number that pass: the number if they are
-- equal
abbrev pub between : Option ℤ → Option ℤ → Exact
between (Some a) (Some b) = if int_eq a b then one a else Any
between _ _ = Empty

-- the most informed value in which every number in range that passes is possible: none if no number
-- passes, the number if exactly one passes, and otherwise any
unfoldable pub closest : (ℤ → Bool) → Exact
closest p = between (least p exact_numbers exact_lowest) (greatest p exact_numbers exact_highest)

-- every number in range is possible
abbrev pub any : Exact
any = closest (λ v. true)

-- no number is possible
abbrev pub empty : Exact
empty = closest (λ v. false)

-- the merge of two: it leaves possible what both leave possible
abbrev pub meet_of : Exact → Exact → Exact
meet_of e f = closest (λ v. allows e v && allows f v)

-- of the numbers in range, it leaves exactly those possible that pass
abbrev pub AllowsJust : (ℤ → Bool) → Exact → Type 0
AllowsJust p e = (v : ℤ) → is_in_exact_range v ≡ true → allows e v ≡ p v

-- the most informed value in which every number in range that passes is possible, in words: it
-- allows each of them, and is within any other value that does
pub record IsClosest (p : ℤ → Bool) (e : Exact) : Type 0 where
  pub holds : (v : ℤ) → is_in_exact_range v ≡ true → p v ≡ true → allows e v ≡ true
  pub smallest : (f : Exact) → ((v : ℤ) → is_in_exact_range v ≡ true → p v ≡ true → allows f v
      ≡ true) → IsWithin e f
