-- The values that informations leave possible, what an operation gives on all of them, and the
-- information nearest to a set of numbers. A set of whole numbers is given by its test: does some
-- number of the set pass?
use Rattle.std.specs.Prelude.{◌≡◌, ◌<◌, ℕ, ℤ, pos, neg_ℤ, Bool, true, false, ◌&&◌, List, ◌≤ℤ◌}
use Rattle.std.specs.Prelude.{is_some, slice_index_or}
use Rattle.std.specs.Int.{IsBitSet}
use Rattle.std.specs.Int.Signed.{le_z}
use Rattle.std.specs.Ordering.{int_eq}
use Rattle.pw_kinds.specs.Ranges.{is_in_interval_range, exact_lowest, exact_numbers}
use Rattle.pw_kinds.specs.Ranges.{least}
use Rattle.pw_kinds.specs.Places.{IsSize}
use Rattle.std.proofs.Common.{arith}
use Rattle.pw_info.specs.declared.kind.Kind.{Kind}
use Rattle.pw_info.specs.declared.kind.Kind.TheVariants as kinds
use Rattle.pw_info.specs.declared.info.Info.{Info}
use Rattle.pw_info.specs.Information.{allows, closest, nothing, contradiction}

-- whether some possible value passes
unfoldable pub some : Info → (ℤ → Bool) → Bool
some info passes = is_some (least (λ v. allows info v && passes v) exact_numbers exact_lowest)

-- a number passes, and no other number does
abbrev pub PassesAlone : (ℤ → Bool) → ℤ → Type 0
PassesAlone passes v = (passes v ≡ true) × ((w : ℤ) → passes w ≡ true → w ≡ v)

-- whether a value is possible at all
abbrev pub is_possible : Info → Bool
is_possible info = some info (λ v. true)

-- a set of whole numbers: whether some number of it passes a test
abbrev pub NumberSet : Type 0
NumberSet = (ℤ → Bool) → Bool

-- all results of an operation on possible values
abbrev pub image_of_one : (ℤ → ℤ) → Info → NumberSet
image_of_one operation x passes = some x (λ a. passes (operation a))

abbrev pub image_of_two : (ℤ → ℤ → ℤ) → Info → Info → NumberSet
image_of_two operation x y passes = some x (λ a. some y (λ b. passes (operation a b)))

-- a number is the result of an operation on a possible value, or on two
abbrev pub IsImageOfOne : (ℤ → ℤ) → Info → ℤ → Type 0
IsImageOfOne operation x z = (a : ℤ) × (allows x a ≡ true) × (z ≡ operation a)

abbrev pub IsImageOfTwo : (ℤ → ℤ → ℤ) → Info → Info → ℤ → Type 0
IsImageOfTwo operation x y z = (a b : ℤ) × (allows x a ≡ true) × (allows y b ≡ true)
    × (z ≡ operation a b)

-- the hull of a set of numbers, cut to the range of intervals: a number is in it if some number of
-- the set is at or below it, and some is at or above it
abbrev pub hull_of : NumberSet → Info
hull_of set = closest kinds.Interval (λ v. set (λ z. le_z z v) && set (λ z. le_z v z))

pub two_is_size : IsSize 2
two_is_size = (omega arith, omega arith)

-- the kind of truths: `false` is place 0, `true` is place 1
abbrev pub bool : Kind
bool = kinds.Members (record { number = 0; size = 2; sized = two_is_size })

abbrev pub truth : Bool → ℤ
truth true = pos 1
truth false = pos 0

abbrev pub is_true : ℤ → Bool
is_true v = int_eq v (pos 1)

-- the truths in a set of truths
abbrev pub truths_of : NumberSet → Info
truths_of set = closest bool (λ v. set (int_eq v))

-- it is the known information for each set of truths that has `false`, and `true`, exactly if these
-- say so
abbrev pub HasTruths : Bool → Bool → Info → Type 0
HasTruths has_false has_true info = (set : NumberSet)
    → set (int_eq (truth false)) ≡ has_false → set (int_eq (truth true)) ≡ has_true → info
    ≡ truths_of set

-- the numbers in range from lo to hi
abbrev pub from_to : ℤ → ℤ → Info
from_to lo hi = closest kinds.Interval (λ v. le_z lo v && le_z v hi)

-- the numbers in range from lo to hi, and those from -lo to hi
abbrev pub range : ℕ → ℕ → Info
range lo hi = from_to (pos lo) (pos hi)

abbrev pub from_minus_to : ℕ → ℕ → Info
from_minus_to lo hi = from_to (neg_ℤ (pos lo)) (pos hi)

-- any number in range, and no number
abbrev pub any_number : Info
any_number = nothing kinds.Interval

abbrev pub no_number : Info
no_number = contradiction kinds.Interval

-- only one truth, and only one number, known exactly
abbrev pub just : Bool → Info
just b = closest bool (int_eq (truth b))

abbrev pub exactly : ℤ → Info
exactly n = closest kinds.Exact (λ v. int_eq v n)

-- no bit at or past the size of a set is set
abbrev pub IsMaskOf : ℕ → ℕ → Type 0
IsMaskOf size mask = (k : ℕ) → IsBitSet mask k → k < size

-- the input at a place, from 0
abbrev pub input : List Info → ℕ → Info
input inputs place = slice_index_or inputs place (nothing kinds.Interval)

-- a set has exactly these numbers
pub record IsSetOf (numbers : ℤ → Type 0) (set : NumberSet) : Type 0 where
  pub found : (passes : ℤ → Bool) (z : ℤ) → numbers z → passes z ≡ true → set passes ≡ true
  pub known : (passes : ℤ → Bool) → set passes ≡ true → (z : ℤ) × numbers z × (passes z ≡ true)

-- a number lies between two numbers of a set, or on one
abbrev pub LiesWithin : (ℤ → Type 0) → ℤ → Type 0
LiesWithin numbers v = (lo hi : ℤ) × numbers lo × numbers hi × (lo ≤ℤ v) × (v ≤ℤ hi)

-- the hull of a set, in words: exactly the numbers in range that lie between two numbers of the
-- set, or on one, are possible. So everything possible lies between any two ends between which all
-- numbers of the set lie. (Of 999,999 and 1,002,000 it is 999999..1000000: the hull is taken first,
-- and then cut.)
pub record IsHull (numbers : ℤ → Type 0) (hull : Info) : Type 0 where
  pub holds : (v : ℤ) → is_in_interval_range v ≡ true → LiesWithin numbers v → allows hull v ≡ true
  pub known : (v : ℤ) → allows hull v ≡ true → (is_in_interval_range v ≡ true)
      × LiesWithin numbers v
  pub smallest : (lo hi : ℤ) → ((z : ℤ) → numbers z → (lo ≤ℤ z) × (z ≤ℤ hi))
      → (v : ℤ) → allows hull v ≡ true → (lo ≤ℤ v) × (v ≤ℤ hi)
