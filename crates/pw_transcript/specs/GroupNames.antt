-- How groups of names are written: each group is a word.
use Rattle.std.specs.Prelude.{◌≢◌, ℕ, ◌<◌, List, length}
use Rattle.std.specs.List.{AllByRecursion, join_with_byte}
use Rattle.pw_info.specs.Bytes.{bar}

-- the names of a group with '|' between each two
abbrev pub text_of_group : List (List ℕ) → List ℕ
text_of_group names = join_with_byte bar names

-- one or more bytes, and no '|' among them
abbrev pub IsInGroup : List ℕ → Type 0
IsInGroup name = (0 < length name) × AllByRecursion (λ byte. byte ≢ bar) name

-- the names of a group: at least one
abbrev pub IsNameGroup : List (List ℕ) → Type 0
IsNameGroup names = (0 < length names) × AllByRecursion IsInGroup names
