-- Words of digits, digit by digit.
use Rattle.std.proofs.Common.{◌≡◌, ℕ, ◌+◌, ◌-◌, ◌*◌, ◌<◌, ◌≤◌, List, length, get_or, take, arith}
use Rattle.std.proofs.lemmas.Int.Digits.{digits_more, digits_value_more}
use Rattle.std.proofs.lemmas.Str.{digit_value_digit}
use Rattle.std.specs.Str.Parse.{AllDigits, digits_value}

-- what one more digit makes of the number so far
pub one_digit_more : (word : List ℕ) (i : ℕ) → i < length word → 48 ≤ get_or word i 0 → get_or word i 0 ≤ 57
    → digits_value 10 (take (i + 1) word) ≡ digits_value 10 (take i word) * 10 + (get_or word i 0 - 48)
one_digit_more word i inside low high =
    let more = digits_value_more 10 word i inside in
    let is = digit_value_digit (get_or word i 0) (low, high) in
    omega arith

-- the bytes so far and one more digit are digits
pub all_digits_more : (word : List ℕ) (i : ℕ) → i < length word → 48 ≤ get_or word i 0 → get_or word i 0 ≤ 57
    → AllDigits 10 (take i word) → AllDigits 10 (take (i + 1) word)
all_digits_more word i inside low high before =
    let is = digit_value_digit (get_or word i 0) (low, high) in
    digits_more 10 word i inside before (omega arith)
