-- Which words spell a number, and that these are its decimal digits.
use Rattle.std.proofs.Common.{rules, ◌≡◌, ℕ, zero, suc, ℤ, pos, negsuc, ◌-ℤ◌, ◌-◌, ◌^◌, ◌<◌, ◌≤◌, List, [], ◌∷◌, length, get_or, take, drop, refl, sym, subst, ap, arith, ◌∙◌}
use Rattle.std.proofs.lemmas.Int.{ints}
use Rattle.std.proofs.lemmas.List.{take_all}
use Rattle.std.proofs.lemmas.Fmt.{digits_decimal, digits_value-decimal, first_decimal, decimal_nonempty, decimal-digits_value, decimal_digit}
use Rattle.std.proofs.lemmas.Str.Parse.{IsNumeralModel, numerals_by_value, tells_digits, digit_at, digits_value-take-le}
use Rattle.std.specs.Fmt.{decimal, signed_decimal}
use Rattle.std.specs.Int.{IsInRange}
use Rattle.std.specs.Str.Parse.{AllDigits, digits_value}
use Rattle.pw_info.specs.Number.{IsUpTo, SpellsNumber, SpellsPositive}
use Rattle.pw_info.proofs.Digits.{one_digit_more}

-- what begins with a digit 1 to 9 is not empty
pub positive_nonempty : (word : List ℕ) (n : ℕ) → SpellsPositive word n → 0 < length word
positive_nonempty [] n spelled = let first = spelled.first in omega arith
positive_nonempty (c ∷ word) n spelled = omega arith

-- and it writes a number above 0
pub positive_above : (word : List ℕ) (n : ℕ) → SpellsPositive word n → 0 < n
positive_above word n spelled =
    let first : IsInRange 49 57 (get_or word 0 0) = spelled.first in
    let more = one_digit_more word 0 (positive_nonempty word n spelled) (omega arith) (omega arith) in
    let least = digits_value-take-le 10 word 1 (omega arith) in
    let value = spelled.value in
    omega arith

-- a word of this form, as a number
pub above_zero : (word : List ℕ) (n most : ℕ) (z : ℤ) → z ≡ pos n → SpellsPositive word n → n ≤ most
    → SpellsNumber word z × IsUpTo most z
above_zero word zero most z is spelled small = absurd (let above = positive_above word 0 spelled in omega arith)
above_zero word (suc n) most z is spelled small =
    subst (λ (v : ℤ). SpellsNumber word v × IsUpTo most v) (sym is) (spelled, (omega (arith, ints), omega (arith, ints)))

-- a word of this form after a minus, as a number
pub below_zero : (word : List ℕ) (n most : ℕ) (z : ℤ) → z ≡ pos 0 -ℤ pos n → 0 < length word → get_or word 0 0 ≡ 45
    → SpellsPositive (take (length word - 1) (drop 1 word)) n → n ≤ most → SpellsNumber word z × IsUpTo most z
below_zero [] n most z is some minus spelled small = absurd (omega arith)
below_zero (c ∷ word) zero most z is some minus spelled small =
    absurd (let above = positive_above (take (length (c ∷ word) - 1) word) 0 spelled in omega arith)
below_zero (c ∷ word) (suc n) most z is some minus spelled small =
    let same : take (length (c ∷ word) - 1) word ≡ word = take_all (length (c ∷ word) - 1) word (omega arith) in
    let negative : z ≡ negsuc n = omega (arith, ints) in
    subst (λ (v : ℤ). SpellsNumber (c ∷ word) v × IsUpTo most v) (sym negative)
    ((minus, subst (λ (digits : List ℕ). SpellsPositive digits (suc n)) same spelled), (omega (arith, ints), omega (arith, ints)))

-- a word of one byte
pub one_byte : (byte : ℕ) (word : List ℕ) → 1 ≤ length word → length word < 2 → get_or word 0 0 ≡ byte → word ≡ byte ∷ []
one_byte byte [] some few first = absurd (omega arith)
one_byte byte (c ∷ []) some few first = cc
one_byte byte (c ∷ (d ∷ word)) some few first = absurd (omega arith)

-- a word with a minus spells no number if no number of this form stands behind it
pub none_below : (word : List ℕ) (most : ℕ) → 0 < length word → get_or word 0 0 ≡ 45
    → ((n : ℕ) → SpellsPositive (take (length word - 1) (drop 1 word)) n → n ≤ most → ⊥)
    → (n : ℤ) → SpellsNumber word n → IsUpTo most n → ⊥
none_below word most some minus none (pos zero) spelled within =
    let first : get_or word 0 0 ≡ 48 = ap (λ (l : List ℕ). get_or l 0 0) spelled in omega arith
none_below word most some minus none (pos (suc n)) spelled within = let first = spelled.first in omega arith
none_below [] most some minus none (negsuc n) spelled within = absurd spelled
none_below (c ∷ word) most some minus none (negsuc n) (first, spelled) within =
    let same : take (length (c ∷ word) - 1) word ≡ word = take_all (length (c ∷ word) - 1) word (omega arith) in
    none (suc n) (subst (λ (digits : List ℕ). SpellsPositive digits (suc n)) (sym same) spelled) (omega (arith, ints))

-- a word with no minus that is not zero spells no number if it is none of this form
pub none_above : (word : List ℕ) (most : ℕ) → (0 < length word → get_or word 0 0 ≡ 45 → ⊥) → (length word ≡ 1 → get_or word 0 0 ≡ 48 → ⊥)
    → ((n : ℕ) → SpellsPositive word n → n ≤ most → ⊥)
    → (n : ℤ) → SpellsNumber word n → IsUpTo most n → ⊥
none_above word most plain other none (pos zero) spelled within = other (ap length spelled) (ap (λ (l : List ℕ). get_or l 0 0) spelled)
none_above word most plain other none (pos (suc n)) spelled within = none (suc n) spelled (omega (arith, ints))
none_above [] most plain other none (negsuc n) spelled within = absurd spelled
none_above (c ∷ word) most plain other none (negsuc n) (first, spelled) within = plain (omega arith) first

-- std's lemmas on decimal digits, at its own words for digits
own : IsNumeralModel (AllDigits 10) (digits_value 10)
own = numerals_by_value (AllDigits 10) tells_digits

-- the decimal digits of a number above 0 spell it
pub decimal_spells : (n : ℕ) → 0 < n → n < 2 ^ 64 → SpellsPositive (decimal n) n
decimal_spells n above fits =
    let first = first_decimal n above fits in
    let digits = digits_decimal own n fits in
    let digit = digit_at (decimal n) 0 digits (decimal_nonempty n fits) in
    record { first = (omega arith, omega arith); digits = digits; value = sym (digits_value-decimal own n fits) }

-- and only they do
pub positive_is_decimal : (word : List ℕ) (n : ℕ) → n < 2 ^ 64 → SpellsPositive word n → word ≡ decimal n
positive_is_decimal word n fits spelled =
    let first : IsInRange 49 57 (get_or word 0 0) = spelled.first in
    let value = spelled.value in
    let is = decimal-digits_value own word spelled.digits (positive_nonempty word n spelled) (λ zero_first. absurd (omega arith)) (omega arith) in
    cc

-- the decimal digits of a number, behind a minus if it is below 0, spell it
pub signed_decimal_spells : (n : ℤ) → IsUpTo 1000000000 n → SpellsNumber (signed_decimal n) n
signed_decimal_spells (pos zero) within = decimal_digit 0 (omega arith)
signed_decimal_spells (pos (suc n)) within = decimal_spells (suc n) (omega arith) (omega (arith, ints))
signed_decimal_spells (negsuc n) within = (refl, decimal_spells (suc n) (omega arith) (omega (arith, ints)))

-- and only they do
pub spelled_is_signed_decimal : (word : List ℕ) (n : ℤ) → IsUpTo 1000000000 n → SpellsNumber word n → word ≡ signed_decimal n
spelled_is_signed_decimal word (pos zero) within spelled = spelled ∙ sym (decimal_digit 0 (omega arith))
spelled_is_signed_decimal word (pos (suc n)) within spelled = positive_is_decimal word (suc n) (omega (arith, ints)) spelled
spelled_is_signed_decimal [] (negsuc n) within spelled = absurd spelled
spelled_is_signed_decimal (c ∷ word) (negsuc n) within (minus, spelled) =
    let rest = positive_is_decimal word (suc n) (omega (arith, ints)) spelled in cc

-- a word spells at most one number
pub one_number_lem : (word : List ℕ) (m n : ℤ) → SpellsNumber word m → SpellsNumber word n → m ≡ n
one_number_lem = search rules
