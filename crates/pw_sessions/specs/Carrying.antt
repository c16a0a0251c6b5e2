-- Which commands can be carried out, and their result for every declaration and all earlier lines.
use Rattle.std.specs.Prelude.{◌≡◌, ℕ, ◌+◌, ◌<◌, ◌≤◌, true, List, [], ◌∷◌, ◌++◌, length}
use Rattle.pw_info.specs.declared.info.Info.{Info}
use Rattle.pw_info.specs.Information.{IsContradiction}
use Rattle.pw_premises.specs.Premises.{Premises}
use Rattle.pw_cells.specs.Cells.{told_in}
use Rattle.pw_decl.specs.Declaration.{Declared}
use Rattle.pw_network.specs.Network.{last_attachment_line}
use Rattle.pw_reasons.specs.Nogood.{covers}
use Rattle.pw_sessions.specs.declared.command.Command.{Command}
use Rattle.pw_sessions.specs.Reply.{Reply}
use Rattle.pw_sessions.specs.Reply as reply
use Rattle.pw_sessions.specs.Answer.{answer_to, user_of}
use Rattle.pw_sessions.specs.Beliefs.{beliefs_at}
use Rattle.pw_sessions.specs.Entries.{entries_before}
use Rattle.pw_sessions.specs.Reply.{LineReading, Says, and_blank_lines}
use Rattle.pw_sessions.specs.Command.{IsDeclared}
use Rattle.pw_sessions.specs.Workbench.{Workbench, IsLeftBy, IsCarriedOut}
use Rattle.pw_sessions.specs.declared.reply.Refusal.TheVariants as refusal

-- the command can be carried out at this line: it comes after all lines that left the workbench,
-- and what the command names is declared
pub record CanBeCarriedOut (workbench : Workbench) (line : ℕ) (command : Command) : Type 0 where
  pub declared : Declared
  pub before : List LineReading
  pub left : IsLeftBy declared before workbench
  pub next : length before < line
  pub most : line ≤ last_attachment_line
  pub names : IsDeclared declared (Says command)

-- for every declaration and all readings of earlier lines that left this: a command whose names are
-- declared was carried out at its line, with the right number of blank lines since the last
abbrev pub CarriesOut : Workbench → ℕ → Command → Workbench → Reply → Type 0
CarriesOut old line command new reply =
    (d : Declared) (before : List LineReading) (blanks : ℕ) → IsLeftBy d before old →
    length before + blanks + 1 ≡ line
    → IsDeclared d (Says command) → IsCarriedOut d (and_blank_lines before blanks) command new reply

-- the command was answered, and its line is among the lines that left the new workbench
pub record IsAnswered (d : Declared) (before : List LineReading) (command : Command)
    (new : Workbench) (reply : Reply) : Type 0 where
  pub left : IsLeftBy d (before ++ Says command ∷ []) new
  pub answer : reply ≡ answer_to d (entries_before before) (beliefs_at d (user_of command) before)
      command

-- nothing changed that a reply shows: the attachments, the told information about each cell and the
-- users' beliefs are as they were; so what lines left is still what they left, and each later reply
-- is as it would have been
pub record ShowsNoChange (old new : Workbench) : Type 0 where
  pub network : new.network ≡ old.network
  pub told : (cell : ℕ) (w : Premises) → told_in new.store cell w ≡ told_in old.store cell w
  pub beliefs : new.beliefs ≡ old.beliefs
  pub left : (d : Declared) (before : List LineReading) → IsLeftBy d before old →
      IsLeftBy d before new

-- what noted sets covered is still covered; and if a why was answered with a contradiction, its
-- reason is covered
pub record NotesReasons (old new : List Premises) (answer : Reply) : Type 0 where
  pub stay : (w : Premises) → covers old w ≡ true → covers new w ≡ true
  pub noted : (info : Info) (reason : Premises) → answer ≡ reply.Because info reason →
      IsContradiction info → covers new reason ≡ true

-- some lines left the workbench, and the user is declared
pub record IsUserOf (workbench : Workbench) (user : ℕ) : Type 0 where
  pub declared : Declared
  pub before : List LineReading
  pub left : IsLeftBy declared before workbench
  pub there : user < length declared.users

-- what noted sets covered is covered still, and the reason of a contradiction that a `why` was
-- answered with
abbrev pub KeepsNogoods : Workbench → Workbench → Reply → Type 0
KeepsNogoods old new answer = NotesReasons old.nogoods new.nogoods answer

-- a command that is refused when memory runs out changes nothing that a reply shows
abbrev pub RefusedShowsNoChange : Workbench → Workbench → Reply → Type 0
RefusedShowsNoChange old new answer = answer ≡ reply.Refused refusal.Memory → ShowsNoChange old new
