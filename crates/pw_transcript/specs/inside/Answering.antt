-- The answer to one line, as a step from what the lines before it left to what they leave with it.
use Rattle.std.specs.Prelude.{◌≡◌, ℕ, ◌+◌, ◌≤◌, nat_le, List, [], ◌∷◌, ◌++◌, length, Option, Some, None, Result}
use Rattle.std.specs.Prelude.{is_some, Bool, true, false, IfOk, OnOk, OnErr, if◌then◌else◌}
use Rattle.pw_info.specs.declared.output.Failed.{Failed}
use Rattle.pw_info.specs.Passing.{PassesPart}
use Rattle.pw_sessions.specs.Reply.{Reply}
use Rattle.pw_decl.specs.Declaration.{Declared}
use Rattle.pw_sessions.specs.Reply.{LineReading, Refused}
use Rattle.pw_sessions.specs.declared.reply.Refusal.TheVariants as refusal
use Rattle.pw_sessions.specs.declared.command.Command.{Command}
use Rattle.pw_sessions.specs.declared.reply.Refusal.{Refusal}
use Rattle.pw_transcript.specs.Sentence.{Sentence}
use Rattle.pw_transcript.specs.inside.Resolving.{IsReadAs, reading_by}
use Rattle.pw_transcript.specs.Reading.{Reads}
use Rattle.pw_transcript.specs.Limits.{most_command_bytes, most_lines}
use Rattle.pw_sessions.specs.Answer.{reply_to}
use Rattle.pw_sessions.specs.Workbench.{Workbench, IsLeftBy}
use Rattle.pw_transcript.specs.ReplyText.{IsReplyNamed, text_if_any}
use Rattle.pw_transcript.specs.FromScratch.{ComesTo}

-- the held part of a line: the line, or nothing if it is longer than a line that is read
abbrev pub held_line : List ℕ → Option (List ℕ)
held_line line = if nat_le (length line) most_command_bytes then Some line else None

-- a line that is held reads so; one that is not is too long
abbrev pub ReadsHeld : Declared → Option (List ℕ) → LineReading → Type 0
ReadsHeld d None reading = reading ≡ Refused refusal.LineTooLong
ReadsHeld d (Some line) reading = Reads d line reading

-- the held line reads so, as this is read of the form of its words
abbrev pub ReadsAs : Declared → Option Sentence → Option (List ℕ) → Type 0
ReadsAs d form held = (read : Result Command Refusal) → IsReadAs d form read
    → ReadsHeld d held (reading_by read)

-- the lines before the line of this number left it
abbrev pub IsLeft : Declared → ℕ → Workbench → Type 0
IsLeft d number workbench = (before : List LineReading) × (length before + 1 ≡ number)
    × IsLeftBy d before workbench

-- the line of this number is to be answered: the lines before it left the workbench, and it is held in one of these ways
pub record IsNextLine (d : Declared) (number : ℕ) (IsHeld : Option (List ℕ) → Type 0) (workbench : Workbench) : Type 0 where
  pub left : IsLeft d number workbench
  pub most : number ≤ most_lines
  pub reads : (held : Option (List ℕ)) × IsHeld held

-- After lines that got these readings, this line got a reading, this is its reply if it gets one,
-- and the new workbench is what the lines leave with it.
pub record RepliesToLine (d : Declared) (before : List LineReading) (line : List ℕ)
    (new : Workbench) (answer : Option Reply) : Type 0 where
  pub reading : LineReading
  pub comes : ComesTo d before line reading
  pub left : IsLeftBy d (before ++ reading ∷ []) new
  pub answer_is : reply_to d before reading ≡ answer

-- The line of this number is held like this, after all lines that may come before it: this is the
-- reply to it, it has its names, and the new workbench is what the lines leave with it.
pub record IsReplied (d : Declared) (number : ℕ) (held : Option (List ℕ)) (old new : Workbench)
    (answer : Reply) : Type 0 where
  pub named : IsReplyNamed d answer
  pub left : IsLeft d (number + 1) new
  pub reply : (before : List LineReading) (line : List ℕ) → IsLeftBy d before old → length before + 1
      ≡ number → held ≡ held_line line
      → RepliesToLine d before line new (Some answer)

module _ {O : Type 0} (passes : O → List ℕ → O → Type 0) (d : Declared) where
  -- the same, and the reply was passed if the line gets one
  pub record PassesReply (number : ℕ) (before : List LineReading) (line : List ℕ) (new : Workbench)
      (o o' : O) (replied : Bool) : Type 0 where
    pub reading : LineReading
    pub comes : ComesTo d before line reading
    pub left : IsLeftBy d (before ++ reading ∷ []) new
    pub passed : passes o (text_if_any d number (reply_to d before reading)) o'
    pub replied_is : replied ≡ is_some (reply_to d before reading)

  -- the line got a reading, and the output failed while its reply was passed
  pub record FailsInReply (number : ℕ) (before : List LineReading) (line : List ℕ) (o o' : O)
      : Type 0 where
    pub reading : LineReading
    pub comes : ComesTo d before line reading
    pub part : PassesPart passes o o' (text_if_any d number (reply_to d before reading))

  -- for all lines before the line of this number, and every line held like this: its reply was
  -- passed
  abbrev pub PassesHeldReply : ℕ → Option (List ℕ) → Workbench → Workbench → O → O → Bool → Type 0
  PassesHeldReply number held old new o o' replied =
      (before : List LineReading) (line : List ℕ) → IsLeftBy d before old → length before + 1
      ≡ number → held ≡ held_line line
      → PassesReply number before line new o o' replied

  -- for all lines before the line of this number, and every line held like this: the output failed
  -- while its reply was passed
  abbrev pub FailsInHeldReply : ℕ → Option (List ℕ) → Workbench → O → O → Type 0
  FailsInHeldReply number held old o o' =
      (before : List LineReading) (line : List ℕ) → IsLeftBy d before old → length before + 1
      ≡ number → held ≡ held_line line
      → FailsInReply number before line o o'

  -- The line of this number is answered, and this is the result: whether it got a reply. That holds
  -- for each line that is held so, after all lines before it: its reply was passed, or the output
  -- failed while it was.
  pub record AnswersLine (has_failed : O → Bool) (number : ℕ) (IsHeld : Option (List ℕ) → Type 0)
      (old new : Workbench) (o o' : O) (result : Result Bool Failed) : Type 0 where
    pub ok : (held : Option (List ℕ)) → IsHeld held → IfOk result (PassesHeldReply number held old
        new o o')
    pub err : (held : Option (List ℕ)) → IsHeld held → OnErr result (FailsInHeldReply number held
        old o o')
    pub failed : OnErr result (has_failed o' ≡ true)
    pub works : OnOk result (has_failed o ≡ false → has_failed o' ≡ false)
    pub left : IsLeft d (number + 1) new
