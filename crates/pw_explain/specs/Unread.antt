-- What is left of a text whose faulty lines are dropped.
use Rattle.std.specs.Prelude.{refl, ◌≡◌, ◌≤◌, ◌<◌, ◌+◌, ◌-◌, ◌⊎◌, ◌++◌, ◌∷◌, [], List, ℕ, Bool, drop, length, map, min, not, slice_index_or, take}
use Rattle.std.specs.List.{AllByRecursion, filter}
use Rattle.std.specs.Coded.{Coded, code_by, coded×, coded_list, coded_ℕ}
use Rattle.pw_info.specs.Bytes.{line_feed}
use Rattle.pw_info.specs.Lines.{HasNoEnd, lines_of, text_of_lines}
use Rattle.pw_info.specs.Words.{is_idle}
use Rattle.pw_explain.specs.declared.expected.Expected.{Expected}
use Rattle.pw_explain.specs.declared.expected.Expected.TheVariants as expected
use Rattle.pw_explain.specs.declared.spot.Place.{Place}
use Rattle.pw_explain.specs.Cut.{AreWholeLines, HasNoLine}
use Rattle.pw_explain.specs.Spot.{LiesIn, bytes_at}

-- what is left of a text: the lines at the front that were kept, and the numbers that they had; and
-- the rest, and how many lines came before it
pub record Left : Type 0 where
  pub front : List ℕ
  pub numbers : List ℕ
  pub rest : List ℕ
  pub passed : ℕ

-- the greatest number of a line
abbrev pub most_lines : ℕ
most_lines = 4294967295

-- the number that a line had, from its number in what is left: that of a kept line, or of one after
-- those that were passed
abbrev pub number_at : List ℕ → ℕ → ℕ → ℕ
number_at numbers passed line =
    slice_index_or numbers (line - 1) (min (passed + (line - length numbers)) most_lines)

-- the line of this number in a text, from 1
abbrev pub line_of : List ℕ → ℕ → List ℕ
line_of text number = slice_index_or (lines_of text) (number - 1) []

-- what was expected is the same, but for the number of a line, which is that in the whole text
abbrev pub IsRenumbered : Left → Expected → Expected → Type 0
IsRenumbered left (expected.NewThanLine line what) new =
    1 ≤ line → new ≡ expected.NewThanLine (number_at left.numbers left.passed line) what
IsRenumbered left old new = new ≡ old

-- it is what is left of the whole text: the lines at the front are those of their numbers, and the
-- others are those that come after the lines that were passed
pub record IsLeftOf (whole : List ℕ) (left : Left) : Type 0 where
  pub lines : List (List ℕ)
  pub are : lines ≡ map (line_of whole) left.numbers
  pub have_no_end : AllByRecursion HasNoEnd lines
  pub front : left.front ≡ text_of_lines lines []
  pub rest : lines_of left.rest ≡ drop left.passed (lines_of whole)

-- where the whole text has no more lines than can be numbered, what is left of it stays so
abbrev pub StaysLeft : Left → Left → Type 0
StaysLeft old new = (whole : List ℕ) → length (lines_of whole) ≤ most_lines → IsLeftOf whole old →
    IsLeftOf whole new

-- the line declares something: it is neither blank nor a comment
abbrev pub declares : List ℕ → Bool
declares line = not (is_idle line)

-- the bytes from the line of this number on, up to those that are left, were dropped. So were, of the
-- bytes between the lines that were kept before and that line, those that declare nothing
pub record IsDropped (number : ℕ) (old new : Left) : Type 0 where
  pub between : List ℕ
  pub part : List ℕ
  pub rest : old.rest ≡ between ++ (part ++ new.rest)
  pub some : part ≡ [] → ⊥
  pub at : AreWholeLines (number - 1) (old.front ++ between)
  pub front : new.front ≡ old.front ++ text_of_lines (filter declares (lines_of between)) []

-- the line of this number begins before the end of the lines that were kept
pub record WasKept (number : ℕ) (left : Left) : Type 0 where
  pub before : List ℕ
  pub rest : List ℕ
  pub is : left.front ++ left.rest ≡ before ++ rest
  pub at : AreWholeLines (number - 1) before
  pub within : length before < length left.front

-- the line of this number was dropped; or there is none, or it was kept before, and nothing changed
abbrev pub DropsLine : ℕ → Left → Left → Type 0
DropsLine number old new = IsDropped number old new
    ⊎ ((new ≡ old) × (HasNoLine (old.front ++ old.rest) number ⊎ WasKept number old))

-- nothing was dropped, or the text that is left is shorter
abbrev pub IsShorter : Left → Left → Type 0
IsShorter old new =
    (new ≡ old) ⊎ (length (new.front ++ new.rest) < length (old.front ++ old.rest))

-- ---- for the code that drops lines

-- the bytes are none, or end in a line feed
abbrev pub EndsInFeed : List ℕ → Type 0
EndsInFeed bytes = (bytes ≡ []) ⊎ ((front : List ℕ) × (bytes ≡ front ++ line_feed ∷ []))

-- the part begins with the line of this number, from 1, and lines of the text come after it, or nothing
pub record IsPartOf (text : List ℕ) (number : ℕ) (part : Place) : Type 0 where
  pub lies : LiesIn text part
  pub some : part.from < part.to
  pub before : AreWholeLines (number - 1) (take part.from text)
  pub after : (drop part.to text ≡ []) ⊎ EndsInFeed (bytes_at text part)

-- the lines of the bytes were passed, and those that declare something were kept. Their numbers were
-- listed: in each text in which they come after the lines that were passed before
pub record KeepsLines (bytes numbers : List ℕ) (passed : ℕ) (kept more_numbers : List ℕ) (now : ℕ)
    : Type 0 where
  pub lines : List (List ℕ)
  pub have_no_end : AllByRecursion HasNoEnd lines
  pub are : kept ≡ text_of_lines lines []
  pub which : lines ≡ filter declares (lines_of bytes)
  pub listed : List ℕ
  pub numbers_are : more_numbers ≡ numbers ++ listed
  pub each : (whole : List ℕ) (later : List (List ℕ)) → length (lines_of whole) ≤ most_lines →
      drop passed (lines_of whole) ≡ lines_of bytes ++ later →
      (lines ≡ map (line_of whole) listed) × (drop now (lines_of whole) ≡ later)

-- it is stored as its parts
abbrev pub left_code : Coded Left
left_code =
    code_by _ (coded× (coded_list coded_ℕ) (coded× (coded_list coded_ℕ) (coded× (coded_list coded_ℕ) coded_ℕ)))
    (λ l. (l.front, (l.numbers, (l.rest, l.passed))))
    (λ p. record { front = p.0; numbers = p.1.0; rest = p.1.1.0; passed = p.1.1.1 }) (λ _. refl)
