-- What is read of the words of a line, and of those of a known user.
use Rattle.std.specs.Prelude.{◌≡◌, ℕ, ◌≤◌, true, false, List, [], ◌∷◌, length, Option, None, Some}
use Rattle.std.specs.Prelude.{Result, Ok, Err, IfOk, IfErr, OnOk}
use Rattle.std.specs.List.{list_all}
use Rattle.pw_info.specs.Lines.{IsFirstIn, HoldsOfNone}
use Rattle.pw_info.specs.Words.{words_of, is_idle, is_allowed}
use Rattle.pw_transcript.specs.Limits.{most_command_bytes}
use Rattle.pw_sessions.specs.Reply.{LineReading, Refused, Says}
use Rattle.pw_decl.specs.Declaration.{Declared}
use Rattle.pw_sessions.specs.declared.reply.Refusal.{Refusal}
use Rattle.pw_sessions.specs.declared.reply.Refusal.TheVariants as refusal
use Rattle.pw_sessions.specs.declared.command.Command.{Command}
use Rattle.pw_transcript.specs.Sentence.{Said, Sentence}
use Rattle.pw_transcript.specs.Reading.{Means, MeansFor, IsUnrefused, IsRefusedWith}
use Rattle.pw_transcript.specs.Reading.{HasUnknownCommand, HasUnknownCell, HasUnknownProcedure}
use Rattle.pw_transcript.specs.Reading.{HasWrongInformation, HasWrongArguments, HasUnknownPremise}
use Rattle.pw_transcript.specs.Reading.{HasAnothersPremise}

-- the condition of each refusal on this user's words
abbrev pub RefusalAppliesToSaid : Declared → ℕ → Said → Refusal → Type 0
RefusalAppliesToSaid d user said refusal.UnknownCommand = HasUnknownCommand said
RefusalAppliesToSaid d user said refusal.UnknownCell = HasUnknownCell d said
RefusalAppliesToSaid d user said refusal.WrongInformation = HasWrongInformation d said
RefusalAppliesToSaid d user said refusal.UnknownProcedure = HasUnknownProcedure d said
RefusalAppliesToSaid d user said refusal.WrongArguments = HasWrongArguments d said
RefusalAppliesToSaid d user said refusal.UnknownPremise = HasUnknownPremise d said
RefusalAppliesToSaid d user said refusal.NotYourPremise = HasAnothersPremise d user said
RefusalAppliesToSaid d user said refusal = ⊥

-- the refusals of a user's words, in the order in which they are tried
abbrev pub said_refusals : List Refusal
said_refusals =
    refusal.UnknownCommand ∷ refusal.UnknownCell ∷ refusal.UnknownProcedure ∷
    refusal.WrongInformation ∷ refusal.WrongArguments
    ∷ refusal.UnknownPremise ∷ refusal.NotYourPremise ∷ []

-- no refusal applies to this user's words
abbrev pub IsFree : Declared → ℕ → Said → Type 0
IsFree d user said = HoldsOfNone (RefusalAppliesToSaid d user said) said_refusals

-- this is the first refusal that applies to this user's words
abbrev pub IsRefusedFor : Declared → ℕ → Said → Refusal → Type 0
IsRefusedFor d user said refusal = IsFirstIn (RefusalAppliesToSaid d user said) said_refusals
    refusal

-- of this user's words this is read: the command that they mean, or the first refusal that applies to them
pub record IsReadFor (d : Declared) (user : ℕ) (said : Said) (read : Result Command Refusal) : Type 0 where
  pub ok : IfOk read (MeansFor d user said)
  pub none : OnOk read (IsFree d user said)
  pub err : IfErr read (IsRefusedFor d user said)

-- these are the words of a line that says something: it is short enough, and each byte may stand in
-- it
pub record IsSpoken (line : List ℕ) (words : List (List ℕ)) : Type 0 where
  pub short : length line ≤ most_command_bytes
  pub spoken : is_idle line ≡ false
  pub allowed : list_all is_allowed line ≡ true
  pub words_are : words ≡ words_of line

-- of a sentence this is read: the command that it means, or the first refusal that applies to it
pub record IsReadOf (d : Declared) (sentence : Sentence) (read : Result Command Refusal)
    : Type 0 where
  pub ok : IfOk read (Means d sentence)
  pub none : OnOk read (IsUnrefused d sentence)
  pub err : IfErr read (IsRefusedWith d sentence)

-- the words of a line are this sentence, if they fit a form, and this is read of them: words that fit
-- none are bad syntax
abbrev pub IsReadAs : Declared → Option Sentence → Result Command Refusal → Type 0
IsReadAs d None read = read ≡ Err refusal.Syntax
IsReadAs d (Some sentence) read = IsReadOf d sentence read

-- what is read of the words of a line, as a reading of the line
abbrev pub reading_by : Result Command Refusal → LineReading
reading_by (Ok command) = Says command
reading_by (Err refusal) = Refused refusal
