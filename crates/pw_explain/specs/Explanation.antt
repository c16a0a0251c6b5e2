-- The lines in which an explanation is written.
use Rattle.std.specs.Prelude.{◌≡◌, ◌++◌, ◌∷◌, ◌&&◌, ◌-◌, [], List, ℕ, Option, None, Some, codes, drop}
use Rattle.std.specs.Prelude.{if◌then◌else◌, length, map, min, nat_lt, replicate, take}
use Rattle.std.specs.Borrow.{Bor}
use Rattle.pw_info.specs.Bytes.{line_feed, space}
use Rattle.pw_info.specs.Words.{is_allowed, is_blank}
use Rattle.pw_explain.specs.declared.spot.Place.{Place}
use Rattle.pw_explain.specs.declared.spot.Spot.{Spot}
use Rattle.pw_explain.specs.Spot.{IsPlaceOf}

-- '?'
abbrev pub question_mark : ℕ
question_mark = 63

-- '^'
abbrev pub caret : ℕ
caret = 94

-- the byte as it is shown: a blank as a space, and what is not visible as a question mark
abbrev pub shown_byte : ℕ → ℕ
shown_byte byte =
    if is_blank byte then space else (if is_allowed byte then byte else question_mark)

-- the most bytes of a line that are shown
abbrev pub most_shown : ℕ
most_shown = 100

-- the number of the first byte that is shown: the first one of the place, if the place ends past the
-- first ones of a long line
abbrev pub shown_from : List ℕ → Place → ℕ
shown_from line place =
    if nat_lt most_shown (length line) && nat_lt most_shown place.to then place.from else 0

-- the bytes of the line from this number on, as they are shown, in a line of their own
abbrev pub shown_part : List ℕ → ℕ → List ℕ
shown_part line from =
    codes "    " ++ (map shown_byte (take most_shown (drop from line)) ++ line_feed ∷ [])

-- a line of marks under the bytes of the place, as far as these are shown from this number on
abbrev pub marks : Place → ℕ → List ℕ
marks place from =
    codes "    " ++ (replicate (place.from - from) space
    ++ (replicate (min (place.to - from) most_shown - (place.from - from)) caret ++ line_feed ∷ []))

-- the line as it is shown, and under it marks for the place, if there is one
abbrev pub shown_line : List ℕ → Option Place → List ℕ
shown_line line None = shown_part line 0
shown_line line (Some place) =
    shown_part line (shown_from line place) ++ marks place (shown_from line place)

-- the text goes on with the line as it is shown, and marks for what is at fault in it
pub record ShowsLine (line : List ℕ) (spot : Spot) (old new : List ℕ) : Type 0 where
  pub place : Option Place
  pub is : IsPlaceOf line spot place
  pub shown : new ≡ old ++ shown_line line place

-- the text goes on, with what it was at the front
pub record GoesOn (old new : List ℕ) : Type 0 where
  pub more : List ℕ
  pub is : new ≡ old ++ more

-- the nearest name as it is said, if there is one
abbrev pub said_near : Option (Bor (List ℕ)) → List ℕ
said_near None = []
said_near (Some name) = codes "; perhaps `" ++ (name.now ++ codes "`")

-- the text goes on with a line that says what was expected, and the nearest name
pub record SaysExpected (near : Option (Bor (List ℕ))) (old new : List ℕ) : Type 0 where
  pub expected : List ℕ
  pub said : new
      ≡ old ++ (codes "    expected " ++ (expected ++ (said_near near ++ line_feed ∷ [])))
