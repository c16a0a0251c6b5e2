-- Places in a line.
use Rattle.std.specs.Prelude.{◌≡◌, ◌≤◌, ◌<◌, ◌==◌, ◌+◌, ◌-◌, ◌⊎◌, ◌++◌, ◌∷◌, [], List, ℕ, Option, None, Some}
use Rattle.std.specs.Prelude.{true, false, length, take, drop, if◌then◌else◌}
use Rattle.std.specs.List.{list_all, prefix_len}
use Rattle.pw_info.specs.Words.{ends_word, is_allowed, is_blank, is_nil, is_plain, words_of}
use Rattle.pw_explain.specs.declared.spot.Place.{Place}
use Rattle.pw_explain.specs.declared.spot.Spot.{Spot}
use Rattle.pw_explain.specs.declared.spot.Spot.TheVariants as spots

-- the bytes of the place are bytes of the line
pub record LiesIn (line : List ℕ) (place : Place) : Type 0 where
  pub order : place.from ≤ place.to
  pub within : place.to ≤ length line

-- the bytes of the line at the place
abbrev pub bytes_at : List ℕ → Place → List ℕ
bytes_at line place = take (place.to - place.from) (drop place.from line)

-- the place has the word of this number, from 0: the words of the line are those before the place, as
-- many as the number; the bytes at the place; and those after it
pub record IsWordAt (line : List ℕ) (number : ℕ) (place : Place) : Type 0 where
  pub lies : LiesIn line place
  pub words : words_of line
      ≡ words_of (take place.from line) ++ bytes_at line place ∷ words_of (drop place.to line)
  pub before : length (words_of (take place.from line)) ≡ number

-- the number of bytes up to the end of the last word
abbrev pub used_len : List ℕ → ℕ
used_len [] = 0
used_len (byte ∷ line) = if is_nil (words_of (byte ∷ line)) then 0 else 1 + used_len line

-- where the first byte of one more word would stand: after a space after the last word, or at the front
-- if there is no word
abbrev pub next_place : List ℕ → ℕ
next_place line = if used_len line == 0 then 0 else used_len line + 1

-- the line has no word of this number, and the place is that of one byte where the next word would stand
pub record IsMissingAt (line : List ℕ) (number : ℕ) (place : Place) : Type 0 where
  pub few : length (words_of line) ≤ number
  pub from : place.from ≡ next_place line
  pub to : place.to ≡ place.from + 1

-- the place lies in the other one
pub record LiesWithin (whole part : Place) : Type 0 where
  pub from : whole.from ≤ part.from
  pub order : part.from ≤ part.to
  pub to : part.to ≤ whole.to

-- the place lies in that of the word of this number, or is that of a word that is missing
abbrev pub IsInWordAt : List ℕ → ℕ → Place → Type 0
IsInWordAt line number place = ((word : Place) × IsWordAt line number word × LiesWithin word place)
    ⊎ IsMissingAt line number place

-- the place has the first byte that no line may have
pub record IsFirstBadByte (line : List ℕ) (place : Place) : Type 0 where
  pub lies : place.from < length line
  pub to : place.to ≡ place.from + 1
  pub before : list_all is_allowed (take place.from line) ≡ true
  pub bad : list_all is_allowed (bytes_at line place) ≡ false

-- the place is that of what is at fault in the line
abbrev pub IsPlaceOf : List ℕ → Spot → Option Place → Type 0
IsPlaceOf line (spots.Word number) (Some place) =
    IsWordAt line number place ⊎ IsMissingAt line number place
IsPlaceOf line (spots.Name word number) (Some place) = IsInWordAt line word place
IsPlaceOf line spots.Byte (Some place) = IsFirstBadByte line place
IsPlaceOf line spots.Byte None = list_all is_allowed line ≡ true
IsPlaceOf line spots.Line None = Unit {0}
IsPlaceOf line spot found = ⊥

-- ---- for the code that finds the place

-- the place has the next word from this byte on: it begins after the blanks, and ends before the next
-- blank or where the line ends
pub record IsNextWord (line : List ℕ) (at : ℕ) (place : Place) : Type 0 where
  pub within : place.to ≤ length line
  pub from : place.from ≡ at + prefix_len is_blank (drop at line)
  pub to : place.to ≡ place.from + prefix_len is_plain (drop place.from line)
  pub some : place.from < place.to

-- this many words of the line come before this byte, and the last of them ends there
pub record PassesWords (line : List ℕ) (number end : ℕ) : Type 0 where
  pub within : end ≤ length line
  pub words : words_of line ≡ words_of (take end line) ++ words_of (drop end line)
  pub many : length (words_of (take end line)) ≡ number
  pub used : used_len (take end line) ≡ end
  pub ends : (end ≡ 0) ⊎ (ends_word (drop end line) ≡ true)

-- the line has no word of this number, and its last word ends at this byte
pub record EndsBefore (line : List ℕ) (number last : ℕ) : Type 0 where
  pub few : length (words_of line) ≤ number
  pub within : last ≤ length line
  pub end : last ≡ used_len line
