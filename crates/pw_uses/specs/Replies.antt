-- The replies of a host to the lines of a transcript.
use Rattle.std.specs.Prelude.{◌≡◌, ℕ, List, Option, Result, IfOk}
use Rattle.std.specs.Global.{Vec}
use Rattle.pw_info.specs.Lines.{lines_of}
use Rattle.pw_decl.specs.Declaration.{Declared}
use Rattle.pw_sessions.specs.Reply.{Reply}
use Rattle.pw_transcript.specs.FromScratch.{GetReplies}
use Rattle.pw_transcript.specs.ReplyText.{text_of_replies}
use Rattle.pw_transcript.specs.declared.transcript.RunFault.{RunFault}

-- over the declaration, the bytes are the replies that all lines of the transcript get from scratch
pub record AreAllReplies (transcript : List ℕ) (d : Declared) (bytes : List ℕ) : Type 0 where
  pub replies : List (Option Reply)
  pub get : GetReplies d (lines_of transcript) replies
  pub text : bytes ≡ text_of_replies d replies

-- so they are, unless the run ended before the transcript did
abbrev pub AreRepliesTo : List ℕ → Declared → Result (Vec ℕ) RunFault → Type 0
AreRepliesTo transcript d answer = IfOk answer (λ bytes. AreAllReplies transcript d bytes.items)
