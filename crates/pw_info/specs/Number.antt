-- Numbers as words, and ranges: one number, or LO..HI.
use Rattle.std.specs.Prelude.{◌≡◌, ℕ, zero, suc, ℤ, pos, negsuc, neg_ℤ, ◌≤ℤ◌, List, [], ◌∷◌}
use Rattle.std.specs.Prelude.{slice_index, codes, ◌++◌, ◌⊎◌, if◌then◌else◌}
use Rattle.std.specs.Int.{IsInRange}
use Rattle.std.specs.Str.Parse.{AllDigits, digits_value}
use Rattle.pw_info.specs.Bytes.{digit_1, digit_9, minus}
use Rattle.std.specs.Fmt.{signed_decimal}
use Rattle.std.specs.Ordering.{int_eq}

-- a digit 1 to 9 and further digits, and the number that they write
pub record SpellsPositive (word : List ℕ) (n : ℕ) : Type 0 where
  -- the first byte is one of '1' to '9'
  pub first : IsInRange digit_1 digit_9 (slice_index word 0)
  -- each byte is one of '0' to '9'
  pub digits : AllDigits 10 word
  -- read in base ten they give the number
  pub value : n ≡ digits_value 10 word

-- a word spells a number: '0', or a digit 1 to 9 and further digits, with '-' before them for a
-- number below 0
abbrev pub SpellsNumber : List ℕ → ℤ → Type 0
SpellsNumber word (pos zero) = word ≡ codes "0"
SpellsNumber word (pos (suc n)) = SpellsPositive word (suc n)
SpellsNumber [] (negsuc n) = ⊥
SpellsNumber (c ∷ word) (negsuc n) = (c ≡ minus) × SpellsPositive word (suc n)

-- a number lies from -most to most
abbrev pub IsUpTo : ℕ → ℤ → Type 0
IsUpTo most n = (neg_ℤ (pos most) ≤ℤ n) × (n ≤ℤ pos most)

-- it holds for no two numbers that lie from -most to most
abbrev pub HoldsOfNoneUpTo : ℕ → (ℤ → ℤ → Type 0) → Type 0
HoldsOfNoneUpTo most Holds = (lo hi : ℤ) → Holds lo hi → IsUpTo most lo → IsUpTo most hi → ⊥

-- the greatest number that is read and written, of any kind
abbrev pub greatest_number : ℕ
greatest_number = 1000000000

-- a word spells the range from lo to hi: it is one number, which is both, or it is LO..HI, with LO
-- at most HI
abbrev pub SpellsRange : List ℕ → ℤ → ℤ → Type 0
SpellsRange word lo hi = (SpellsNumber word lo × (lo ≡ hi))
    ⊎ ((front : List ℕ) × (back : List ℕ) × (word ≡ front ++ (codes ".." ++ back))
    × SpellsNumber front lo × SpellsNumber back hi × (lo ≤ℤ hi))

-- a word spells no range
abbrev pub SpellsNoRange : List ℕ → Type 0
SpellsNoRange word = (lo hi : ℤ) → ¬ SpellsRange word lo hi

-- the text written for the range from lo to hi: one number if both are equal, and otherwise LO..HI
abbrev pub text_of_range : ℤ → ℤ → List ℕ
text_of_range lo hi =
    if int_eq lo hi then signed_decimal lo else signed_decimal lo
    ++ (codes ".." ++ signed_decimal hi)
