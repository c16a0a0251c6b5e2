-- The names that a user, a premise, a set kind, a member or a cell may have.
use Rattle.std.specs.Prelude.{◌≡◌, ℕ, ◌≤◌, nat_le, Bool, true, false, not, ◌&&◌, ◌||◌, ◌==◌, List}
use Rattle.std.specs.Prelude.{[], ◌∷◌, length, codes}
use Rattle.std.specs.List.{list_all, list_any}
use Rattle.std.specs.Str.{bytes_eq}
use Rattle.pw_info.specs.Bytes.{digit_0, digit_9, letter_a, letter_z, underscore}

-- the greatest number of bytes in a name
abbrev pub most_name_bytes : ℕ
most_name_bytes = 32

-- the words that are not names
abbrev pub reserved_words : List (List ℕ)
reserved_words =
    codes "under" ∷ codes "none" ∷ codes "nothing" ∷ codes "contradiction" ∷ codes "line" ∷ codes
    "of" ∷ codes "local" ∷ codes "end" ∷ []

-- one of `a` to `z`
abbrev pub is_letter : ℕ → Bool
is_letter b = nat_le letter_a b && nat_le b letter_z

-- one of `a` to `z`, `0` to `9` and `_`
abbrev pub is_name_byte : ℕ → Bool
is_name_byte b = is_letter b || (nat_le digit_0 b && nat_le b digit_9) || (b == underscore)

-- the first byte is a letter
abbrev pub begins_with_letter : List ℕ → Bool
begins_with_letter [] = false
begins_with_letter (b ∷ bytes) = is_letter b

-- one of the words that are not names
unfoldable pub is_reserved : List ℕ → Bool
is_reserved word = list_any (bytes_eq word) reserved_words

-- the test of a name
unfoldable pub is_name : List ℕ → Bool
is_name word = nat_le (length word) most_name_bytes && begins_with_letter word
    && list_all is_name_byte word && not (is_reserved word)

-- a name has at most 32 bytes of `a` to `z`, `0` to `9` and `_`, begins with a letter, and is no
-- reserved word
pub record IsName (word : List ℕ) : Type 0 where
  pub short : length word ≤ most_name_bytes
  pub first : begins_with_letter word ≡ true
  pub bytes : list_all is_name_byte word ≡ true
  pub free : is_reserved word ≡ false
