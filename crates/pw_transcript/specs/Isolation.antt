-- Users do not disturb each other: the earlier lines of a text that the reply to a line rests on.
use Rattle.std.specs.Prelude.{◌≡◌, ℕ, ◌+◌, Bool, List, [], ◌∷◌, ◌++◌, length, Option, if◌then◌else◌}
use Rattle.pw_info.specs.Lines.{lines_of}
use Rattle.pw_decl.specs.Declaration.{Declared}
use Rattle.pw_sessions.specs.Reply.{Reply}
use Rattle.pw_premises.specs.Premises.{Premises}
use Rattle.pw_sessions.specs.Answer.{reply_to, user_of}
use Rattle.pw_sessions.specs.Blanking.{rests_on, tried_from, tried_in}
use Rattle.pw_sessions.specs.Reply.{LineReading, Says}
use Rattle.pw_transcript.specs.FromScratch.{ReadAs}
use Rattle.pw_transcript.specs.Reading.{Reads}

-- the line of this number of a text, the lines before it, and the readings of all of them
pub record IsLineAt (d : Declared) (text : List ℕ) (number : ℕ) : Type 0 where
  pub before : List (List ℕ)
  pub line : List ℕ
  pub after : List (List ℕ)
  pub readings : List LineReading
  pub reading : LineReading
  pub parts : lines_of text ≡ before ++ line ∷ after
  pub number_is : length before + 1 ≡ number
  pub read : ReadAs d before readings
  pub reads : Reads d line reading

-- the reply to the line of this number of a text, from scratch, if no line is refused memory
abbrev pub IsReplyAt : Declared → List ℕ → ℕ → Option Reply → Type 0
IsReplyAt d text number answer = (at : IsLineAt d text number)
    × (answer ≡ reply_to d at.readings at.reading)

-- the line, or an empty one in its place
abbrev pub kept_or_empty : Bool → List ℕ → List ℕ
kept_or_empty keeps line = if keeps then line else []

-- further lines with their readings, after lines with these readings, each made empty that the user
-- does not rest on, who tries this set at last
abbrev pub emptied_from : Declared → ℕ → Premises → List LineReading → List (List ℕ) →
    List LineReading → List (List ℕ)
emptied_from d user last before (line ∷ lines) (reading ∷ readings) =
    kept_or_empty (rests_on user
    (tried_from d user (before ++ reading ∷ []) readings ++ last ∷ []) reading) line
    ∷ emptied_from d user last (before ++ reading ∷ []) lines readings
emptied_from d user last before lines readings = []

-- all lines made empty
abbrev pub all_empty : List (List ℕ) → List (List ℕ)
all_empty [] = []
all_empty (line ∷ lines) = [] ∷ all_empty lines

-- the lines before the last, with their readings, each made empty that its reply does not rest on;
-- a blank or refused line rests on no line
abbrev pub emptied_for : Declared → List LineReading → LineReading → List (List ℕ) → List (List ℕ)
emptied_for d before (Says command) lines =
    emptied_from d (user_of command) (tried_in d before command) [] lines before
emptied_for d before reading lines = all_empty lines

-- The reply to the line of this number rests on these lines: that line, and the lines before it,
-- each made empty except its user's own lines that change beliefs, and the lines that tell or attach
-- under premises that the user tries at that line, or at an own choose line in between: each of
-- them is believed there or named there to choose from. If the line says no command, all lines
-- before it are made empty.
abbrev pub RestsOn : Declared → List ℕ → ℕ → List (List ℕ) → Type 0
RestsOn d text number lines =
    (at : IsLineAt d text number)
    × (lines ≡ emptied_for d at.readings at.reading at.before ++ at.line ∷ [])

-- the text begins with these lines, and anything may come after them
abbrev pub BeginsWith : List ℕ → List (List ℕ) → Type 0
BeginsWith text lines = (after : List (List ℕ)) × (lines_of text ≡ lines ++ after)
