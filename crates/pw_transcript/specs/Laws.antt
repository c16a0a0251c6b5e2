-- The laws of this crate that are longer than a line: each is the contract of a function in
-- `src/laws.rt`.
use Rattle.std.specs.Prelude.{◌≡◌, ◌↔◌, ◌+◌, ℕ, List, Contains, Option, Some, slice_get}
use Rattle.pw_decl.specs.Declaration.{Declared}
use Rattle.pw_decl.specs.WellDeclared.{IsWellDeclared}
use Rattle.pw_info.specs.Lines.{lines_of}
use Rattle.pw_sessions.specs.Reply.{LineReading}
use Rattle.pw_sessions.specs.declared.reply.Refusal.{Refusal}
use Rattle.pw_sessions.specs.Reply.{Reply}
use Rattle.pw_transcript.specs.FromScratch.{GetReplies}
use Rattle.pw_transcript.specs.Isolation.{BeginsWith, IsReplyAt, RestsOn}
use Rattle.pw_transcript.specs.declared.input.Reading.{Reading}
use Rattle.pw_transcript.specs.Readers.{ReaderTakes, NothingRemains, IsAllOf}
use Rattle.pw_transcript.specs.Reading.{Reads}
use Rattle.pw_transcript.specs.Sentence.{Sentence, IsSentence}
use Rattle.pw_transcript.specs.inside.Forms.{sentence_form}

-- a line reads in one way
abbrev pub OneReading : Type 0
OneReading =
    (d : Declared) (line : List ℕ) (a b : LineReading) → IsWellDeclared d → Reads d line a →
    Reads d line b → a ≡ b

-- the words of a line are one sentence at most, the one that the function gives
abbrev pub OneSentence : Type 0
OneSentence =
    (words : List (List ℕ)) (sentence : Sentence) →
    IsSentence words sentence ↔ (sentence_form words ≡ Some sentence)

module _ {R : Type 0} (remaining : R → Option (List ℕ)) where
  -- what is taken from a reader until nothing is left is all that remained of it, where that is
  -- known
  abbrev pub WholeTextIsTaken : Type 0
  WholeTextIsTaken =
      (old new : Reading R) (bytes : List ℕ) → ReaderTakes remaining old bytes new →
      NothingRemains remaining new → IsAllOf remaining old bytes

-- where no line was refused for memory, the replies of a run are, line by line, those from scratch
abbrev pub RepliesAreFromScratch : Type 0
RepliesAreFromScratch =
    (d : Declared) (text : List ℕ) (replies : List (Option Reply)) (at : ℕ) (answer : Option Reply)
    →
    GetReplies d (lines_of text) replies →
    (Contains replies (Some (Reply.Refused Refusal.Memory)) → ⊥) →
    slice_get replies at ≡ Some answer → IsReplyAt d text (at + 1) answer

-- the reply to a line rests on the lines whose entries its user sees, and no others
abbrev pub Isolation : Type 0
Isolation =
    (d : Declared) (number : ℕ) (text blanked : List ℕ) (lines : List (List ℕ))
    (answer other : Option Reply) → IsWellDeclared d →
    RestsOn d text number lines → BeginsWith blanked lines →
    IsReplyAt d text number answer → IsReplyAt d blanked number other → answer ≡ other

-- texts that agree on these lines have the same reply there
abbrev pub AgreeingTexts : Type 0
AgreeingTexts =
    (d : Declared) (number : ℕ) (text other : List ℕ) (lines : List (List ℕ))
    (answer same : Option Reply) → IsWellDeclared d →
    RestsOn d text number lines → RestsOn d other number lines →
    IsReplyAt d text number answer → IsReplyAt d other number same → answer ≡ same
