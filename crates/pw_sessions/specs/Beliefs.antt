-- A user's beliefs: every declared premise at first, as changed by the user's own lines.
use Rattle.std.specs.Prelude.{ℕ, ◌==◌, List, [], ◌∷◌, ◌++◌, Option, None, Some, length}
use Rattle.std.specs.Prelude.{if◌then◌else◌}
use Rattle.std.specs.List.{range_with_len}
use Rattle.std.specs.FinSet.{union, difference, from_list}
use Rattle.pw_premises.specs.Premises.{Premises}
use Rattle.pw_decl.specs.Declaration.{Declared}
use Rattle.pw_reasons.specs.Combinations.{groups_of, worldview_of}
use Rattle.pw_sessions.specs.declared.command.Command.TheVariants as commands
use Rattle.pw_sessions.specs.Choosing.{chosen_in}
use Rattle.pw_sessions.specs.Entries.{entries_before}
use Rattle.pw_sessions.specs.Reply.{LineReading, Says}

-- the premises of the numbers below this one
abbrev pub premises_below : ℕ → Premises
premises_below count = from_list (range_with_len 0 count)

-- every declared premise
abbrev pub all_premises : Declared → Premises
all_premises d = premises_below (length d.premises)

-- the beliefs after a choice among the groups: where premises were taken, these take the place of
-- all premises of the groups
abbrev pub after_choice : Premises → List (List ℕ) → Option (List ℕ) → Premises
after_choice beliefs groups None = beliefs
after_choice beliefs groups (Some taken) = worldview_of beliefs groups taken

-- the beliefs of a user with these beliefs, after lines with these readings, after one more line:
-- the user's own believe line adds premises, the user's own doubt line takes them out, and the
-- user's own choose line does as it is answered
abbrev pub believed_after : Declared → ℕ → List LineReading → Premises → LineReading → Premises
believed_after d user before beliefs (Says (commands.Believe other premises)) =
    if other == user then union beliefs premises else beliefs
believed_after d user before beliefs (Says (commands.Doubt other premises)) =
    if other == user then difference beliefs premises else beliefs
believed_after d user before beliefs (Says (commands.Choose other groups)) =
    if other == user
    then after_choice beliefs (groups_of groups)
    (chosen_in d (entries_before before) beliefs (groups_of groups))
    else beliefs
believed_after d user before beliefs reading = beliefs

-- the beliefs of a user with these beliefs, after lines with these readings, after further lines
abbrev pub beliefs_from : Declared → ℕ → List LineReading → Premises → List LineReading → Premises
beliefs_from d user before beliefs [] = beliefs
beliefs_from d user before beliefs (reading ∷ readings) =
    beliefs_from d user (before ++ reading ∷ []) (believed_after d user before beliefs reading)
    readings

-- a user's beliefs after the lines of a transcript so far; at the start every declared premise
abbrev pub beliefs_at : Declared → ℕ → List LineReading → Premises
beliefs_at d user readings = beliefs_from d user [] (all_premises d) readings
