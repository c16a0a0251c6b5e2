-- The names of the members of set kinds, and how some members are written: `{`, their names joined
-- by `,`, `}`.
use Rattle.std.specs.Prelude.{◌≡◌, ℕ, List, [], All, length, slice_index_or, ℤ, pos, ◌<◌, ◌++◌}
use Rattle.std.specs.Prelude.{Bool, map, codes, nat_eq}
use Rattle.std.specs.List.{IsDistinct, list_any, join_with_byte}
use Rattle.std.specs.Str.{bytes_eq}
use Rattle.pw_info.specs.declared.kind.Kind.{Kind}
use Rattle.pw_info.specs.Name.{IsName}
use Rattle.std.specs.Ordering.{int_eq}
use Rattle.pw_info.specs.Bytes.{comma}
use Rattle.pw_info.specs.declared.kind.Kind.TheVariants as kinds

-- the names of the members of each set kind, by its number
abbrev pub SetNames : Type 0
SetNames = ℕ → List (List ℕ)

-- the name of the member at a place
abbrev pub name_at : List (List ℕ) → ℕ → List ℕ
name_at names place = slice_index_or names place []

-- the names of the members of one set: each is a name, and no two are equal
pub record AreNames (names : List (List ℕ)) : Type 0 where
  pub each : All IsName names
  pub differ : IsDistinct bytes_eq names

-- the names of each set are names, and no two are equal
abbrev pub AllAreNames : SetNames → Type 0
AllAreNames sets = (set : ℕ) → AreNames (sets set)

-- every member of the kind has its name, if it is a set kind
abbrev pub IsNamed : SetNames → Kind → Type 0
IsNamed sets kinds.Interval = Unit {0}
IsNamed sets (kinds.Members set) = length (sets set.number) ≡ set.size
IsNamed sets kinds.Exact = Unit {0}

-- places of members of a set of this size: at least one, each below the size, none twice
pub record ArePlaces (size : ℕ) (places : List ℕ) : Type 0 where
  pub some : 0 < length places
  pub there : All (λ place. place < size) places
  pub once : IsDistinct nat_eq places

-- whether a number is one of the places
abbrev pub is_one_of : List ℕ → ℤ → Bool
is_one_of places v = list_any (λ place. int_eq (pos place) v) places

-- the names of the members at these places in a row, with ',' between each two
abbrev pub row_of : List (List ℕ) → List ℕ → List ℕ
row_of names places = join_with_byte comma (map (name_at names) places)

-- `{`, the names at these places with ',' between each two, `}`
abbrev pub text_of_set : List (List ℕ) → List ℕ → List ℕ
text_of_set names places = codes "{" ++ (join_with_byte comma (map (name_at names) places)
    ++ codes "}")
