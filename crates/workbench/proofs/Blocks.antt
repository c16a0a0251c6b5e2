-- Lines that are not refused.
use Rattle.std.proofs.Common.{◌≡◌, ℕ, Bool, true, false, List, Option, None, Some, Ok, ap, sym}
use Rattle.std.proofs.lemmas.Bool.{false≢true}
use Rattle.pw_decl.specs.Declaration.{Declared}
use Rattle.pw_sessions.specs.declared.command.Command.{Command}
use Rattle.pw_sessions.specs.Reply.{LineReading, Blank, Refused, Says}
use Rattle.pw_transcript.specs.Reading.{Reads, reading_of}
use Rattle.workbench.specs.Explaining.{IsNotRefused}

-- whether the line is refused
abbrev is_refused : LineReading → Bool
is_refused Blank = false
is_refused (Refused refusal) = true
is_refused (Says command) = false

-- a line that reads as a command, or as blank, is not refused
pub read_is_not_refused : (d : Declared) (line : List ℕ) (read : Option Command) → ((other : LineReading) → Reads d line other → other ≡ reading_of (Ok read)) → IsNotRefused d line
read_is_not_refused d line None only refusal reads = false≢true (sym (ap is_refused (only (Refused refusal) reads)))
read_is_not_refused d line (Some command) only refusal reads = false≢true (sym (ap is_refused (only (Refused refusal) reads)))
