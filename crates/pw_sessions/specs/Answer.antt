-- The answer to a command: from scratch, from the entries that are visible under the beliefs, and
-- from the beliefs.
use Rattle.std.specs.Prelude.{ℕ, Bool, List, [], ◌∷◌, ◌++◌, Option, Some, None, filter, length, map}
use Rattle.std.specs.List.{list_any, range_with_len}
use Rattle.pw_premises.specs.Premises.{Premises}
use Rattle.pw_decl.specs.Declaration.{Declared}
use Rattle.pw_reasons.specs.Conflicts.{Conflicts}
use Rattle.pw_reasons.specs.Reason.{reason_of}
use Rattle.pw_reasons.specs.SameInfo.{is_contradiction}
use Rattle.pw_sessions.specs.declared.command.Command.{Command}
use Rattle.pw_sessions.specs.declared.command.Command.TheVariants as commands
use Rattle.pw_sessions.specs.Reply.{Reply}
use Rattle.pw_sessions.specs.Reply as reply
use Rattle.pw_sessions.specs.Beliefs.{beliefs_at}
use Rattle.pw_reasons.specs.Combinations.{groups_of}
use Rattle.pw_sessions.specs.CellNames.{inner_names_of}
use Rattle.pw_sessions.specs.Choosing.{chosen_in}
use Rattle.pw_sessions.specs.Entries.{Entry, entries_before, line_of}
use Rattle.pw_sessions.specs.Reply.{LineReading, Blank, Refused, Says}
use Rattle.pw_sessions.specs.Values.{cell_value, cell_value_under, value_by_name, visible_in}

-- why the cell has its value under these beliefs: of these premises, tried from the last to the
-- first, those that the value needs
abbrev pub reason_in : Declared → List Entry → Premises → ℕ → Premises
reason_in d entries beliefs cell = reason_of (cell_value_under d entries cell) beliefs

-- the entry made an inner cell whose value, with these entries, is a contradiction
abbrev pub has_conflict : Declared → List Entry → Entry → Bool
has_conflict d entries entry = list_any (λ name.
    is_contradiction (value_by_name d entries name)) (inner_names_of d entry)

-- what is contradictory with these entries: declared cells, in order; and attachments by line, for
-- an inner cell
abbrev pub conflicts_of : Declared → List Entry → Conflicts
conflicts_of d entries =
    record {
      cells = filter (λ cell. is_contradiction (cell_value d entries cell))
          (range_with_len 0 (length d.cells));
      lines = map line_of (filter (has_conflict d entries) entries);
    }

-- the answer to a command, with these entries and these beliefs of its user: to `ask` the value of
-- the cell from only the visible entries, to `why` this value and its reason, to `conflicts` what
-- the visible entries contradict, to `beliefs` the user's beliefs, to `choose` the first consistent
-- combination, and to every other command `ok`
abbrev pub answer_to : Declared → List Entry → Premises → Command → Reply
answer_to d entries beliefs (commands.Ask user cell) =
    reply.Value (cell_value_under d entries cell beliefs)
answer_to d entries beliefs (commands.Why user cell) =
    reply.Because (cell_value_under d entries cell beliefs) (reason_in d entries beliefs cell)
answer_to d entries beliefs (commands.Conflicts user) =
    reply.Listed (conflicts_of d (visible_in entries beliefs))
answer_to d entries beliefs (commands.Beliefs user) = reply.Believes beliefs
answer_to d entries beliefs (commands.Choose user groups) =
    reply.Chose (chosen_in d entries beliefs (groups_of groups))
answer_to d entries beliefs command = reply.Done

-- the user who gives the command
abbrev pub user_of : Command → ℕ
user_of (commands.Tell user cell fact) = user
user_of (commands.Attach user callable cells support) = user
user_of (commands.Believe user premises) = user
user_of (commands.Doubt user premises) = user
user_of (commands.Beliefs user) = user
user_of (commands.Ask user cell) = user
user_of (commands.Why user cell) = user
user_of (commands.Conflicts user) = user
user_of (commands.Choose user groups) = user

-- the reply to a line with this reading, after lines with these readings; a blank line gets no
-- reply
abbrev pub reply_to : Declared → List LineReading → LineReading → Option Reply
reply_to d before Blank = None
reply_to d before (Refused refusal) = Some (reply.Refused refusal)
reply_to d before (Says command) =
    Some (answer_to d (entries_before before) (beliefs_at d (user_of command) before) command)

-- the replies to further lines, after lines with these readings
abbrev pub replies_after : Declared → List LineReading → List LineReading → List (Option Reply)
replies_after d before [] = []
replies_after d before (reading ∷ readings) = reply_to d before reading ∷ replies_after d (before
    ++ reading ∷ []) readings

-- the replies to the lines of a transcript
abbrev pub replies_of : Declared → List LineReading → List (Option Reply)
replies_of d readings = replies_after d [] readings
