-- The theorem of a run: the output is, line by line, the reply that each line gets from scratch.
use Rattle.std.specs.Prelude.{◌≡◌, ℕ, ◌+◌, ◌≤◌, Bool, true, List, [], ◌∷◌, ◌++◌, length, Option}
use Rattle.std.specs.Prelude.{Some, None, ◌⊎◌, Contains}
use Rattle.std.specs.List.{AllByRecursion}
use Rattle.pw_info.specs.Passing.{PassesPart}
use Rattle.pw_sessions.specs.declared.command.Command.{Command}
use Rattle.pw_sessions.specs.Reply.{Reply}
use Rattle.pw_sessions.specs.declared.reply.Refusal.TheVariants as refusal
use Rattle.pw_transcript.specs.declared.transcript.Lines.{Lines}
use Rattle.pw_info.specs.Lines.{lines_of, HasNoEnd, text_of_lines}
use Rattle.pw_transcript.specs.Limits.{most_lines, most_bytes, IsWithinLimits, GoesPastLimits}
use Rattle.pw_decl.specs.Declaration.{Declared}
use Rattle.pw_sessions.specs.Reply.{LineReading, Refused, Says}
use Rattle.pw_transcript.specs.Reading.{Reads}
use Rattle.pw_sessions.specs.Answer.{replies_of}
use Rattle.pw_sessions.specs.Command.{TakesMemory}
use Rattle.pw_transcript.specs.ReplyText.{text_of_replies}

-- ---- the replies to lines

-- each line has its reading
abbrev pub ReadAs : Declared → List (List ℕ) → List LineReading → Type 0
ReadAs d [] [] = Unit {0}
ReadAs d (line ∷ lines) (reading ∷ readings) = Reads d line reading × ReadAs d lines readings
ReadAs d lines readings = ⊥

-- the reading that a line gets, after lines that got these readings: its own reading; or a refusal,
-- if it says a command that takes memory there, and memory runs out
abbrev pub ComesTo : Declared → List LineReading → List ℕ → LineReading → Type 0
ComesTo d before line reading =
    Reads d line reading
    ⊎ ((reading ≡ Refused refusal.Memory) × (command : Command) × TakesMemory d before command
    × Reads d line (Says command))

-- the readings that further lines get, after lines that got these readings
abbrev pub FurtherLinesComeTo : Declared → List LineReading → List (List ℕ) → List LineReading →
    Type 0
FurtherLinesComeTo d before [] [] = Unit {0}
FurtherLinesComeTo d before (line ∷ lines) (reading ∷ readings) =
    ComesTo d before line reading × FurtherLinesComeTo d (before ++ reading ∷ []) lines readings
FurtherLinesComeTo d before lines readings = ⊥

-- the readings that the lines of a transcript get, one after another
abbrev pub LinesComeTo : Declared → List (List ℕ) → List LineReading → Type 0
LinesComeTo d lines readings = FurtherLinesComeTo d [] lines readings

-- These lines get these replies, from scratch. A line that was refused because memory ran out
-- counts as blank for the lines after it; if there is no such line, each line gets its own reading.
pub record GetReplies (d : Declared) (lines : List (List ℕ)) (replies : List (Option Reply))
    : Type 0 where
  pub readings : List LineReading
  pub come : LinesComeTo d lines readings
  pub plain : (Contains readings (Refused refusal.Memory) → ⊥) → ReadAs d lines readings
  pub replies_are : replies ≡ replies_of d readings

-- the number of replies
abbrev pub count_of_replies : List (Option Reply) → ℕ
count_of_replies [] = 0
count_of_replies (None ∷ replies) = count_of_replies replies
count_of_replies (Some reply ∷ replies) = 1 + count_of_replies replies

-- these lines end in the bytes, and `rest` came after the last of them
pub record EndIn (bytes : List ℕ) (ended : List (List ℕ)) (rest : List ℕ) : Type 0 where
  pub whole : bytes ≡ text_of_lines ended rest
  pub no_end : AllByRecursion HasNoEnd ended
  pub unended : HasNoEnd rest

-- the lines of the bytes that a run answers: those that end in them; and, once the input has ended,
-- also the bytes after the last of these
abbrev pub AreToAnswer : Bool → List ℕ → List (List ℕ) → Type 0
AreToAnswer has_ended bytes lines = ((has_ended ≡ true) × (lines ≡ lines_of bytes))
    ⊎ ((rest : List ℕ) × EndIn bytes lines rest)

-- ---- the output for bytes, between two moments of an output

module _ {O : Type 0} (passes : O → List ℕ → O → Type 0) (d : Declared) where
  -- the replies to all lines of the bytes, and nothing else; with the numbers of lines and of
  -- replies
  pub record PassesAll (o o' : O) (counts : Lines) (bytes : List ℕ) : Type 0 where
    pub replies : List (Option Reply)
    pub get : GetReplies d (lines_of bytes) replies
    pub passed : passes o (text_of_replies d replies) o'
    pub line_count : counts.lines ≡ length (lines_of bytes)
    pub reply_count : counts.replies ≡ count_of_replies replies

  -- the replies to the lines that end in the bytes, and nothing else
  pub record PassesEnded (o o' : O) (bytes : List ℕ) : Type 0 where
    pub ended : List (List ℕ)
    pub rest : List ℕ
    pub replies : List (Option Reply)
    pub parts : EndIn bytes ended rest
    pub get : GetReplies d ended replies
    pub passed : passes o (text_of_replies d replies) o'

  -- a front of the replies to the first of these lines, which are no more than a run answers
  pub record PassesFront (o o' : O) (all : List (List ℕ)) : Type 0 where
    pub lines : List (List ℕ)
    pub others : List (List ℕ)
    pub replies : List (Option Reply)
    pub first : all ≡ lines ++ others
    pub few : length lines ≤ most_lines
    pub get : GetReplies d lines replies
    pub front : PassesPart passes o o' (text_of_replies d replies)

-- ---- a run, between two moments of its input and its output

module _ {I O : Type 0} (takes : I → List ℕ → I → Type 0) (passes : O → List ℕ → O →
    Type 0) (d : Declared) where
  -- bytes within the limits were taken, and the replies to all their lines were passed, and nothing
  -- else
  pub record RepliesToAll (i i' : I) (o o' : O) (counts : Lines) : Type 0 where
    pub bytes : List ℕ
    pub taken : takes i bytes i'
    pub within : IsWithinLimits bytes
    pub passed : PassesAll passes d o o' counts bytes

  -- bytes within the limits were taken, and the replies to the lines that end in them were passed,
  -- and nothing else
  pub record RepliesToEnded (i i' : I) (o o' : O) : Type 0 where
    pub bytes : List ℕ
    pub taken : takes i bytes i'
    pub within : IsWithinLimits bytes
    pub passed : PassesEnded passes d o o' bytes

  -- bytes past the limits were taken, and the replies to the lines that end within them were
  -- passed, and nothing else
  pub record RepliesUpToLimit (i i' : I) (o o' : O) : Type 0 where
    pub within : List ℕ
    pub past : List ℕ
    pub taken : takes i (within ++ past) i'
    pub goes_past : GoesPastLimits within past
    pub passed : PassesEnded passes d o o' within

  -- bytes were taken, at most one more than a run answers, and a front of the replies to those of
  -- their lines that a run answers was passed. A last piece without a line feed is a line like that
  -- only if the input has ended.
  pub record RepliesInPart (has_ended : I → Bool) (i i' : I) (o o' : O) : Type 0 where
    pub bytes : List ℕ
    pub taken : takes i bytes i'
    pub most : length bytes ≤ most_bytes + 1
    pub lines : List (List ℕ)
    pub to_answer : AreToAnswer (has_ended i') bytes lines
    pub passed : PassesFront passes d o o' lines
