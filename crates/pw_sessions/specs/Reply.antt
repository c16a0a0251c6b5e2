-- How a line of a transcript reads, once its bytes are forgotten, and what it is answered with.
use Rattle.std.specs.Prelude.{ℕ, List, ◌++◌, Option, option_map, replicate}
use Rattle.pw_sessions.specs.declared.command.Command.{Command}
use Rattle.pw_sessions.specs.declared.reply.Refusal.{Refusal}
use Rattle.pw_info.specs.declared.info.Info.{Info}
use Rattle.pw_premises.specs.Premises.{Premises}
use Rattle.pw_reasons.specs.Combinations.{picked_in}
use Rattle.pw_reasons.specs.Conflicts.{Conflicts}
use Rattle.pw_sessions.specs.declared.reply.Reply.{Reply as ReplyKept}
use Rattle.pw_sessions.specs.declared.reply.Reply.TheVariants as kept

-- a line is blank, or it is refused, or it says a command
pub data LineReading : Type 0 where
  Blank : LineReading
  Refused : Refusal → LineReading
  Says : Command → LineReading

-- lines, and this many blank lines after them
abbrev pub and_blank_lines : List LineReading → ℕ → List LineReading
and_blank_lines readings blanks = readings ++ replicate blanks Blank

-- a command that tells or changes something was carried out; or a value, with or without its
-- reason; or what is contradictory; or what a user believes; or which premises were chosen, if any
-- were; or why the line was refused
pub data Reply : Type 0 where
  Done : Reply
  Value : (info : Info) → Reply
  Because : (info : Info) (reason : Premises) → Reply
  Listed : (conflicts : Conflicts) → Reply
  Believes : (premises : Premises) → Reply
  Chose : (taken : Option (List ℕ)) → Reply
  Refused : (refusal : Refusal) → Reply

-- the reply that the code stores, for any memory of its lists
abbrev pub reply_by : {A : Type 0} → ReplyKept A → Reply
reply_by kept.Done = Done
reply_by (kept.Value info) = Value info
reply_by (kept.Because info reason) = Because info reason
reply_by (kept.Listed conflicts) = Listed conflicts
reply_by (kept.Believes premises) = Believes premises
reply_by (kept.Chose picks) = Chose (option_map picked_in picks)
reply_by (kept.Refused refusal) = Refused refusal
