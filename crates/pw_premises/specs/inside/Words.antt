-- How machine words hold a set of premises.
use Rattle.std.specs.Prelude.{ℕ, zero, suc, ◌+◌, ◌*◌, ◌/◌, ◌%◌, ◌^◌, ◌<◌, ◌≡◌, Bool, cond, nat_eq}
use Rattle.std.specs.Prelude.{List, map, length, slice_index}
use Rattle.std.specs.Ordering.{nat_cmp}
use Rattle.std.specs.FinSet.{FinSet, empty, insert, contains}
use Rattle.std.specs.Int.{bit_at}
use Rattle.std.specs.List.{range_with_len}
use Rattle.pw_premises.specs.Premises.{Premises, most_premises}

-- the set of the numbers below w that pass the test
unfoldable pub set_where : ℕ → (ℕ → Bool) → FinSet nat_cmp
set_where zero p = empty
set_where (suc w) p = cond (p w) (insert (set_where w p) w) (set_where w p)

-- whether bit k of n is set
unfoldable pub has_bit : ℕ → ℕ → Bool
has_bit n k = nat_eq (bit_at n k) 1

-- eight words of 64 bits
pub record AreWords (words : List ℕ) : Type 0 where
  pub many : length words ≡ 8
  pub below : (i : ℕ) → i < 8 → slice_index words i < 2 ^ 64

-- whether the bit of number q is set in words that follow one another
abbrev pub has_bit_in : List ℕ → ℕ → Bool
has_bit_in words q = has_bit (slice_index words (q / 64)) (q % 64)

-- the set that words hold: the numbers whose bit is set
abbrev pub set_of_words : List ℕ → Premises
set_of_words words = set_where most_premises (has_bit_in words)

-- the number whose bits below w are set if their places pass the test
unfoldable pub number_where : ℕ → (ℕ → Bool) → ℕ
number_where zero p = 0
number_where (suc w) p = cond (p w) (2 ^ w + number_where w p) (number_where w p)

-- word i of a set, and all its words
abbrev pub word_of : Premises → ℕ → ℕ
word_of premises i = number_where 64 (λ k. contains premises (i * 64 + k))

abbrev pub words_of : Premises → List ℕ
words_of premises = map (word_of premises) (range_with_len 0 8)

-- the set that one word holds
abbrev pub set_of_word : ℕ → Premises
set_of_word word = set_where 64 (has_bit word)

-- the word of a set of numbers below 64
abbrev pub narrow_word_of : Premises → ℕ
narrow_word_of premises = number_where 64 (contains premises)
