-- What `explain` prints of a line of a transcript.
use Rattle.std.specs.Prelude.{◌≡◌, ℕ, List, [], ◌++◌, Option, codes}
use Rattle.std.specs.Borrow.{Bor}
use Rattle.pw_decl.specs.Declaration.{Declared}
use Rattle.pw_sessions.specs.declared.reply.Refusal.{Refusal}
use Rattle.pw_sessions.specs.Reply as replies
use Rattle.pw_transcript.specs.Reading.{Reads}
use Rattle.pw_transcript.specs.ReplyText.{text_of_reply}
use Rattle.pw_explain.specs.declared.spot.Spot.{Spot}
use Rattle.pw_explain.specs.Explanation.{SaysExpected, ShowsLine}
use Rattle.pw_explain.specs.Wanted.{IsWanted}

-- the first line of a block: `transcript line `, and the reply that refuses the line
abbrev pub title_of : Declared → ℕ → Refusal → List ℕ
title_of d number refusal = codes "transcript line "
    ++ text_of_reply d number (replies.Refused refusal)

-- the lines of a block after the first, of a line that is refused so: the line as it is shown, and
-- marks under what is at fault in it; and what was expected there, with the nearest name of the sort
-- that was wanted, if one is near
pub record IsToldOf (d : Declared) (refusal : Refusal) (line told : List ℕ) : Type 0 where
  pub spot : Spot
  pub shown : List ℕ
  pub shows : ShowsLine line spot [] shown
  pub near : Option (Bor (List ℕ))
  pub says : SaysExpected near shown told
  pub wanted : IsWanted d refusal line spot near

-- the block of a line: its first line is `transcript line ` and the reply of `run`, which refuses
-- the line
pub record IsBlockOf (d : Declared) (number : ℕ) (line block : List ℕ) : Type 0 where
  pub refusal : Refusal
  pub reads : Reads d line (replies.Refused refusal)
  pub told : List ℕ
  pub is_told : IsToldOf d refusal line told
  pub text : block ≡ title_of d number refusal ++ told

-- `run` does not refuse the line
abbrev pub IsNotRefused : Declared → List ℕ → Type 0
IsNotRefused d line = (refusal : Refusal) → Reads d line (replies.Refused refusal) → ⊥
