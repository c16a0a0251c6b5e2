-- How far the lines of a transcript are answered, when bytes come piece by piece.
use Rattle.std.specs.Prelude.{◌≡◌, ℕ, ◌+◌, ◌<◌, ◌≤◌, List, [], ◌++◌, length, Option}
use Rattle.std.specs.List.{AllByRecursion}
use Rattle.pw_info.specs.Passing.{PassesPart}
use Rattle.pw_transcript.specs.declared.transcript.Lines.{Lines}
use Rattle.pw_info.specs.Lines.{lines_of, HasNoEnd, text_of_lines}
use Rattle.pw_transcript.specs.Limits.{most_lines}
use Rattle.pw_decl.specs.Declaration.{Declared}
use Rattle.pw_sessions.specs.Reply.{LineReading}
use Rattle.pw_sessions.specs.Answer.{replies_of}
use Rattle.pw_transcript.specs.inside.Answering.{held_line, IsLeft}
use Rattle.pw_sessions.specs.Workbench.{Workbench, IsLeftBy}
use Rattle.pw_transcript.specs.ReplyText.{text_of_replies}
use Rattle.pw_transcript.specs.FromScratch.{LinesComeTo, count_of_replies, PassesAll, PassesFront}
use Rattle.pw_sessions.specs.inside.Fields.{state}
use Rattle.pw_transcript.specs.declared.progress.Progress.{Progress as ProgressType}

-- the state between two steps: what the lines so far left, the numbers of lines and of replies, and
-- the held part of the next line
pub record Progress : Type 0 where
  pub workbench : Workbench
  pub counts : Lines
  pub line : Option (List ℕ)

-- What holds between two steps, for any input: some lines left the workbench, and after the last
-- line that a run answers nothing has come.
pub record IsRunning (d : Declared) (p : Progress) : Type 0 where
  pub left : IsLeft d (p.counts.lines + 1) p.workbench
  pub lines : p.counts.lines ≤ most_lines
  pub replies : p.counts.replies ≤ p.counts.lines
  pub last : p.counts.lines ≡ most_lines → p.line ≡ held_line []

module _ {O : Type 0} (passes : O → List ℕ → O → Type 0) (d : Declared) where
  -- these bytes came, and a front of the replies to their first lines, which have ended, was passed
  pub record FrontSoFar (first now : O) (bytes : List ℕ) : Type 0 where
    pub ended : List (List ℕ)
    pub rest : List ℕ
    pub readings : List LineReading
    pub whole : bytes ≡ text_of_lines ended rest
    pub no_end : AllByRecursion HasNoEnd ended
    pub few : length ended ≤ most_lines
    pub come : LinesComeTo d ended readings
    pub front : PassesPart passes first now (text_of_replies d (replies_of d readings))

  -- After some bytes these came: the last line that a run answers ended, and `past` came after it.
  -- The replies to all lines up to that one were passed, and nothing else.
  pub record LimitSoFar (first now : O) (before bytes : List ℕ) : Type 0 where
    pub ended : List (List ℕ)
    pub past : List ℕ
    pub readings : List LineReading
    pub whole : before ++ bytes ≡ text_of_lines ended past
    pub no_end : AllByRecursion HasNoEnd ended
    pub count : length ended ≡ most_lines
    pub more : 0 < length past
    pub short : length past ≤ length bytes
    pub come : LinesComeTo d ended readings
    pub passed : passes first (text_of_replies d (replies_of d readings)) now

  -- ---- the progress from the first byte on

  -- These bytes came, and the replies to the lines that ended in them were passed, and nothing
  -- else. What those lines leave is stored, and the part of the next line that came is held.
  pub record AnsweredSoFar (first now : O) (p : Progress) (bytes : List ℕ) : Type 0 where
    pub ended : List (List ℕ)
    pub last : List ℕ
    pub readings : List LineReading
    pub whole : bytes ≡ text_of_lines ended last
    pub no_end : AllByRecursion HasNoEnd ended
    pub unended : HasNoEnd last
    pub few : length (lines_of bytes) ≤ most_lines
    pub held : p.line ≡ held_line last
    pub come : LinesComeTo d ended readings
    pub left : IsLeftBy d readings p.workbench
    pub passed : passes first (text_of_replies d (replies_of d readings)) now
    pub line_count : p.counts.lines ≡ length ended
    pub reply_count : p.counts.replies ≡ count_of_replies (replies_of d readings)

  -- ---- one step, after any input

  -- these bytes take the run from one state to another
  abbrev pub GoesOn : Progress → O → List ℕ → Progress → O → Type 0
  GoesOn old o bytes new o' =
      (first : O) (before : List ℕ) → AnsweredSoFar first o old before →
      AnsweredSoFar first o' new (before ++ bytes)

  -- the output failed in these bytes
  abbrev pub FailsIn : Progress → O → List ℕ → O → Type 0
  FailsIn old o bytes o' =
      (first : O) (before : List ℕ) → AnsweredSoFar first o old before →
      FrontSoFar first o' (before ++ bytes)

  -- these bytes go past the last line that a run answers
  abbrev pub StopsIn : Progress → O → List ℕ → O → Type 0
  StopsIn old o bytes o' =
      (first : O) (before : List ℕ) → AnsweredSoFar first o old before →
      LimitSoFar first o' before bytes

  -- no more bytes come, and all lines are answered
  abbrev pub Ends : Progress → O → Progress → O → Type 0
  Ends old o new o' =
      (first : O) (bytes : List ℕ) → AnsweredSoFar first o old bytes →
      PassesAll passes d first o' new.counts bytes

  -- no more bytes come, and the output failed in the last line
  abbrev pub FailsAtEnd : Progress → O → O → Type 0
  FailsAtEnd old o o' =
      (first : O) (bytes : List ℕ) → AnsweredSoFar first o old bytes →
      PassesFront passes d first o' (lines_of bytes)

-- its workbench, its counts and the held line
abbrev pub progress : {A : _} {X : Type 0} {F : X → Type 0} {C : _} → ProgressType A X F C →
    Progress
progress p = record { workbench = state p.workbench; counts = p.counts; line = p.line }
