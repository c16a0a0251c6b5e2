-- Lines as words: blanks, words, comments, and the bytes that a line may have.
use Rattle.std.specs.Prelude.{◌≡◌, ℕ, ◌<◌, Bool, true, false, not, ◌||◌, ◌&&◌, ◌==◌, nat_le, List}
use Rattle.std.specs.Prelude.{[], ◌∷◌, ◌++◌, length, if◌then◌else◌}
use Rattle.std.specs.List.{onto_first, AllByRecursion}
use Rattle.pw_info.specs.Bytes.{tab, carriage_return, space, first_visible, hash, last_visible}

-- a byte is a blank: a space, a tab or a carriage return
abbrev pub is_blank : ℕ → Bool
is_blank byte = byte == space || byte == tab || byte == carriage_return

-- a word ends before these bytes: there are none, or the first is a blank
abbrev pub ends_word : List ℕ → Bool
ends_word [] = true
ends_word (byte ∷ bytes) = is_blank byte

-- the words of a line: its longest runs of bytes that are not blanks, from left to right
abbrev pub words_of : List ℕ → List (List ℕ)
words_of [] = []
words_of (byte ∷ line) =
    if is_blank byte then words_of line
    else (if ends_word line then (byte ∷ []) ∷ words_of line else onto_first byte (words_of line))

-- a byte of a word: not a blank
abbrev pub is_plain : ℕ → Bool
is_plain byte = not (is_blank byte)

-- all these bytes are blanks
abbrev pub AreBlanks : List ℕ → Type 0
AreBlanks bytes = AllByRecursion (λ byte. is_blank byte ≡ true) bytes

-- one or more bytes, and no blank among them
abbrev pub IsWord : List ℕ → Type 0
IsWord bytes = (0 < length bytes) × AllByRecursion (λ byte. is_blank byte ≡ false) bytes

-- a line alternates between blanks and these words: blanks, a word, and the same for the bytes
-- after the word; with no word it is only blanks
abbrev pub AreWords : List ℕ → List (List ℕ) → Type 0
AreWords line [] = AreBlanks line
AreWords line (word ∷ words) =
    (gap : List ℕ) × (rest : List ℕ) × (line ≡ gap ++ (word ++ rest)) × AreBlanks gap × IsWord word
    × (ends_word rest ≡ true) × AreWords rest words

-- no word is left
abbrev pub is_nil : List (List ℕ) → Bool
is_nil [] = true
is_nil (word ∷ words) = false

-- a line that says nothing: no byte, only blanks, or a comment, whose first byte that is not a
-- blank is `#`
abbrev pub is_idle : List ℕ → Bool
is_idle [] = true
is_idle (byte ∷ line) = if is_blank byte then is_idle line else byte == hash

-- a byte that a line may have: a blank or a visible ASCII character
abbrev pub is_allowed : ℕ → Bool
is_allowed byte = is_blank byte || (nat_le first_visible byte && nat_le byte last_visible)
