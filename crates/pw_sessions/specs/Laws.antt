-- The laws of this crate that are longer than a line: each is the contract of a function in
-- `src/laws.rt`.
use Rattle.std.specs.Prelude.{◌≡◌, ◌≢◌, ◌<◌, ℕ, true, [], ◌∷◌, ◌++◌, All, List, length}
use Rattle.std.specs.FinSet.{contains, remove}
use Rattle.pw_premises.specs.Premises.{Premises, most_premises}
use Rattle.pw_sessions.specs.declared.reply.Refusal.{Refusal}
use Rattle.pw_sessions.specs.Reply.{Reply}
use Rattle.pw_sessions.specs.Reply as replies
use Rattle.pw_decl.specs.Declaration.{Declared}
use Rattle.pw_decl.specs.WellDeclared.{IsWellDeclared}
use Rattle.pw_sessions.specs.Reply.{LineReading, Blank, Refused, and_blank_lines}
use Rattle.pw_sessions.specs.declared.command.Command.{Command}
use Rattle.pw_sessions.specs.Entries.{Entry, entries_before}
use Rattle.pw_sessions.specs.Command.{IsDeclared}
use Rattle.pw_reasons.specs.Reason.{Grows}
use Rattle.pw_sessions.specs.Answer.{answer_to, reason_in, reply_to, replies_after}
use Rattle.pw_sessions.specs.Values.{MeetTheLaws, cell_value_under, visible_in}
use Rattle.pw_sessions.specs.Blanking.{blanked_for, tried_by}
use Rattle.pw_sessions.specs.Carrying.{IsAnswered}
use Rattle.pw_sessions.specs.Workbench.{Workbench, IsCarriedOut, IsLeftBy}

-- a refused line leaves nothing
abbrev pub RefusedLinesCountAsBlank : Type 0
RefusedLinesCountAsBlank =
    (d : Declared) (before after : List LineReading) (refusal : Refusal) →
    replies_after d (before ++ Refused refusal ∷ []) after
    ≡ replies_after d (before ++ Blank ∷ []) after

-- what a user neither believes nor tries changes no answer to that user
abbrev pub UnbelievedEntriesChangeNothing : Type 0
UnbelievedEntriesChangeNothing =
    (d : Declared) (entries : List Entry) (beliefs : Premises) (command : Command) →
    answer_to d (visible_in entries (tried_by beliefs command)) beliefs command
    ≡ answer_to d entries beliefs command

-- what visible entries say meets what the laws of the fixpoint ask
abbrev pub VisibleEntriesMeetTheLaws : Type 0
VisibleEntriesMeetTheLaws =
    (d : Declared) (before : List LineReading) (beliefs : Premises) → IsWellDeclared d →
    All (IsDeclared d) before → MeetTheLaws d (visible_in (entries_before before) beliefs)

-- the value of a cell says more where more is believed
abbrev pub CellValuesGrow : Type 0
CellValuesGrow =
    (d : Declared) (before : List LineReading) (cell : ℕ) → IsWellDeclared d →
    All (IsDeclared d) before →
    cell < length d.cells → Grows (cell_value_under d (entries_before before) cell)

-- the premises of a reason alone give the value
abbrev pub ReasonsGiveTheValue : Type 0
ReasonsGiveTheValue =
    (d : Declared) (entries : List Entry) (beliefs : Premises) (cell : ℕ) →
    cell_value_under d entries cell (reason_in d entries beliefs cell)
    ≡ cell_value_under d entries cell beliefs

-- and without any one of them the value differs
abbrev pub ReasonsAreNeeded : Type 0
ReasonsAreNeeded =
    (d : Declared) (before : List LineReading) (beliefs : Premises) (cell premise : ℕ) →
    IsWellDeclared d →
    All (IsDeclared d) before → cell < length d.cells → premise < most_premises →
    contains (reason_in d (entries_before before) beliefs cell) premise ≡ true →
    cell_value_under d (entries_before before) cell
    (remove (reason_in d (entries_before before) beliefs cell) premise)
    ≢ cell_value_under d (entries_before before) cell beliefs

-- users do not disturb each other
abbrev pub UnbelievedLinesCountAsBlank : Type 0
UnbelievedLinesCountAsBlank =
    (d : Declared) (before : List LineReading) (last : LineReading) →
    reply_to d (blanked_for d before last) last ≡ reply_to d before last

-- a line that is blank or refused leaves a workbench what it is
abbrev pub BlankLinesLeaveAWorkbench : Type 0
BlankLinesLeaveAWorkbench =
    (d : Declared) (before : List LineReading) (blanks : ℕ) (workbench : Workbench) →
    IsWellDeclared d → IsLeftBy d before workbench →
    IsLeftBy d (and_blank_lines before blanks) workbench

-- a command that was carried out and not refused was answered
abbrev pub CommandsNotRefusedAreAnswered : Type 0
CommandsNotRefusedAreAnswered =
    (d : Declared) (before : List LineReading) (command : Command) (new : Workbench) (reply : Reply)
    →
    IsCarriedOut d before command new reply → (reply ≡ replies.Refused Refusal.Memory → ⊥) →
    IsAnswered d before command new reply
