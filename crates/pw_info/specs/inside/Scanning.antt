-- How far the code has read or written a word: its parts, some bytes at once, and the names of
-- members one by one.
use Rattle.std.specs.Prelude.{◌≡◌, ◌≢◌, ℕ, ℤ, ◌≤ℤ◌, List, ◌++◌, codes, slice_index, EachIndex, ◌==◌}
use Rattle.std.specs.Prelude.{Option, Some, None, if◌then◌else◌, pos, false, ◌||◌, All, [], ◌∷◌}
use Rattle.std.specs.Prelude.{filter}
use Rattle.pw_info.specs.Bytes.{comma, dot}
use Rattle.pw_info.specs.Number.{SpellsNumber}
use Rattle.std.specs.Int.{w64, trailing_zeros}
use Rattle.pw_kinds.specs.declared.members.Members.{Members}
use Rattle.pw_kinds.specs.Members.{size_of, allows}
use Rattle.pw_info.specs.SetNames.{ArePlaces, is_one_of, row_of}
use Rattle.std.specs.List.{range_with_len}

-- no byte of a word is '.'
abbrev pub HasNoDot : List ℕ → Type 0
HasNoDot word = EachIndex word (λ k. slice_index word k ≢ dot)

-- no byte of a text is ','
abbrev pub HasNoComma : List ℕ → Type 0
HasNoComma text = EachIndex text (λ k. slice_index text k ≢ comma)

-- the parts before and after the first '.' of a word spell LO..HI, with LO at most HI
abbrev pub SpellsCut : List ℕ → List ℕ → ℤ → ℤ → Type 0
SpellsCut front rest lo hi = (back : List ℕ) × (rest ≡ codes "." ++ back)
    × SpellsNumber front lo × SpellsNumber back hi × (lo ≤ℤ hi)

-- the place of the lowest bit that is set, if one is set
abbrev pub lowest_set : ℕ → Option ℕ
lowest_set mask = if mask == 0 then None else Some (trailing_zeros w64 mask)

-- the length of a run among n bytes, if one of them ends it
abbrev pub short_of : ℕ → ℕ → Option ℕ
short_of n len = if len == n then None else Some len

-- the text names the members at these places, none of which was seen before
pub record NamesApart (names : List (List ℕ)) (text : List ℕ) (seen : Members) (places : List ℕ)
    : Type 0 where
  pub are_places : ArePlaces (size_of seen) places
  pub text_is : text ≡ row_of names places
  pub apart : All (λ place. allows seen (pos place) ≡ false) places

-- there are no members that the text names and none of which was seen before
abbrev pub NamesNoneApart : List (List ℕ) → List ℕ → Members → Type 0
NamesNoneApart names text seen = (places : List ℕ) → NamesApart names text seen places → ⊥

-- the text names some members, none of which was seen before; these and the members seen before are
-- possible, and no others
pub record AddsPlaces (names : List (List ℕ)) (text : List ℕ) (seen part : Members) : Type 0 where
  pub places : List ℕ
  pub named : NamesApart names text seen places
  pub size : size_of part ≡ size_of seen
  pub values : (v : ℤ) → allows part v ≡ (allows seen v || is_one_of places v)

-- the possible places below a place, in rising order
abbrev pub places_below : Members → ℕ → List ℕ
places_below part place = filter (λ other. allows part (pos other)) (range_with_len 0 place)

-- the text written so far, after the members at these places are named: nothing if there are none
abbrev pub opened : List (List ℕ) → List ℕ → List ℕ
opened names [] = []
opened names (place ∷ places) = codes "{" ++ row_of names (place ∷ places)

-- the mark written before the next name
abbrev pub mark_after : List ℕ → List ℕ
mark_after [] = codes "{"
mark_after (place ∷ places) = codes ","
