-- A mask as four words of 32 bits, the lowest first.
use Rattle.std.specs.Prelude.{ℕ, ◌≡◌, ◌+◌, ◌*◌, ◌^◌, ◌/◌, ◌%◌, ◌<◌, ◌≤◌}
use Rattle.std.proofs.Common.{arith, ap, ◌∙◌}
use Rattle.std.proofs.Math.Nat.{pow-le-pow_right}
use Rattle.pw_kinds.specs.Places.{IsMask}

-- a word has this many values
abbrev pub word_values : ℕ
word_values = 2 ^ 32

-- the number whose bits the words hold
abbrev pub bits_of_words : ℕ → ℕ → ℕ → ℕ → ℕ
bits_of_words a b c d = a + (b + (c + d * word_values) * word_values) * word_values

-- each is a word
pub record AreWords (a b c d : ℕ) : Type 0 where
  pub first : a < word_values
  pub second : b < word_values
  pub third : c < word_values
  pub fourth : d < word_values

lowest : (low high : ℕ) → low < word_values → (low + high * word_values) % word_values ≡ low
lowest low high h = omega arith

rest : (low high : ℕ) → low < word_values → (low + high * word_values) / word_values ≡ high
rest low high h = omega arith

-- the words of a number, and what remains above each
abbrev pub first_word : ℕ → ℕ
first_word bits = bits % word_values

abbrev pub second_word : ℕ → ℕ
second_word bits = bits / word_values % word_values

abbrev pub third_word : ℕ → ℕ
third_word bits = bits / word_values / word_values % word_values

abbrev pub fourth_word : ℕ → ℕ
fourth_word bits = bits / word_values / word_values / word_values

-- the words of the number that words hold are these words
pub words_again : (a b c d : ℕ) → AreWords a b c d →
    (first_word (bits_of_words a b c d) ≡ a) × (second_word (bits_of_words a b c d) ≡ b)
    × (third_word (bits_of_words a b c d) ≡ c) × (fourth_word (bits_of_words a b c d) ≡ d)
words_again a b c d h =
    let upper = c + d * word_values in
    let middle = b + upper * word_values in
    let one : (a + middle * word_values) / word_values ≡ middle = rest a middle h.first in
    let two : (b + upper * word_values) / word_values ≡ upper = rest b upper h.second in
    let three : (c + d * word_values) / word_values ≡ d = rest c d h.third in (
      lowest a middle h.first,
      ap (λ n. n % word_values) one ∙ lowest b upper h.second,
      ap (λ n. n / word_values % word_values) one ∙ ap (λ n. n % word_values) two
          ∙ lowest c d h.third,
      ap (λ n. n / word_values / word_values) one ∙ ap (λ n. n / word_values) two ∙ three,
    )

parts : (n : ℕ) → n % word_values + (n / word_values) * word_values ≡ n
parts n = omega arith

-- the number that the words of a number hold is this number
pub bits_again : (bits : ℕ) → bits_of_words (first_word bits) (second_word bits) (third_word bits)
    (fourth_word bits) ≡ bits
bits_again bits =
    ap (λ n. first_word bits + (second_word bits + n * word_values) * word_values) (parts (bits
    / word_values / word_values))
    ∙ ap (λ n. first_word bits + n * word_values) (parts (bits / word_values)) ∙ parts bits

below_word : (n : ℕ) → n % word_values < word_values
below_word n = omega arith

top_word : (n : ℕ) → n < 2 ^ 128 → n / word_values / word_values / word_values < word_values
top_word n h = omega arith

-- the words of a number below 2 to the 128 are words
pub words_fit : (bits : ℕ) → bits < 2 ^ 128 → AreWords (first_word bits) (second_word bits)
    (third_word bits) (fourth_word bits)
words_fit bits h = record {
  first = below_word bits;
  second = below_word (bits / word_values);
  third = below_word (bits / word_values / word_values);
  fourth = top_word bits h;
}

-- a mask is below 2 to the 128
pub mask_fits : (size mask : ℕ) → IsMask size mask → mask < 2 ^ 128
mask_fits size mask h = let wide : 2 ^ size ≤ 2 ^ 128 = pow-le-pow_right (omega arith) h.most in let below : mask < 2 ^ size = h.below in omega (arith, wide, below)
