-- A text as lines: each ends before a line feed, and what comes after the last line feed is a line
-- if it is not empty. And the first of a list of which something holds.
use Rattle.std.specs.Prelude.{◌≡◌, ◌⊎◌, List, [], ◌∷◌, ◌≢◌, ℕ, ◌==◌, Bool, not, ◌++◌, if◌then◌else◌}
use Rattle.std.specs.List.{onto_first, AllByRecursion, flat_map}
use Rattle.pw_info.specs.Bytes.{line_feed}

-- x is the first element of the list for which P holds
abbrev pub IsFirstIn : {A : Type 0} → (A → Type 0) → List A → A → Type 0
IsFirstIn P [] x = ⊥
IsFirstIn P (y ∷ ys) x = ((y ≡ x) × P y) ⊎ ((P y → ⊥) × IsFirstIn P ys x)

-- P holds for no element of the list
abbrev pub HoldsOfNone : {A : Type 0} → (A → Type 0) → List A → Type 0
HoldsOfNone P [] = Unit {0}
HoldsOfNone P (y ∷ ys) = (P y → ⊥) × HoldsOfNone P ys

-- the lines of a text, without their line feeds
abbrev pub lines_of : List ℕ → List (List ℕ)
lines_of [] = []
lines_of (byte ∷ text) = if byte == line_feed then [] ∷ lines_of text else onto_first byte
    (lines_of text)

-- a byte of a line: not a line feed
abbrev pub is_of_line : ℕ → Bool
is_of_line byte = not (byte == line_feed)

-- these bytes have no line feed
abbrev pub HasNoEnd : List ℕ → Type 0
HasNoEnd bytes = AllByRecursion (λ byte. byte ≢ line_feed) bytes

-- a text is a line, its line feed, and the rest
abbrev pub BeginsWithLine : List ℕ → List ℕ → List ℕ → Type 0
BeginsWithLine text line rest = (text ≡ line ++ line_feed ∷ rest) × HasNoEnd line

-- the text of these lines, each with its line feed, and then of a last piece without one
abbrev pub text_of_lines : List (List ℕ) → List ℕ → List ℕ
text_of_lines ended last = flat_map (λ line. line ++ line_feed ∷ []) ended ++ last

-- a last piece without a line feed is a line if it is not empty
abbrev pub last_line : List ℕ → List (List ℕ)
last_line [] = []
last_line (byte ∷ bytes) = (byte ∷ bytes) ∷ []

-- the lines of a text: the text is each of `ended` with a line feed after it, and then `last`; none
-- of them has a line feed in it; and the lines are `ended`, and then `last` if it is not empty
abbrev pub AreLines : List ℕ → List (List ℕ) → Type 0
AreLines text lines =
    (ended : List (List ℕ)) × (last : List ℕ) × (text ≡ text_of_lines ended last)
    × AllByRecursion HasNoEnd ended × HasNoEnd last
    × (lines ≡ ended ++ last_line last)
