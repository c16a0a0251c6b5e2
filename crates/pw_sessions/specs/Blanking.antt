-- Blanking the lines that the reply to a line does not rest on.
use Rattle.std.specs.Prelude.{ℕ, ◌==◌, Bool, false, List, [], ◌∷◌, ◌++◌, if◌then◌else◌}
use Rattle.std.specs.List.{list_any}
use Rattle.std.specs.FinSet.{from_list, is_subset, union}
use Rattle.pw_premises.specs.Premises.{Premises}
use Rattle.pw_decl.specs.Declaration.{Declared}
use Rattle.pw_reasons.specs.Combinations.{groups_of}
use Rattle.pw_reasons.specs.Groups.{all_of}
use Rattle.pw_sessions.specs.declared.command.Command.{Command}
use Rattle.pw_sessions.specs.declared.command.Command.TheVariants as commands
use Rattle.pw_sessions.specs.Answer.{user_of}
use Rattle.pw_sessions.specs.Beliefs.{beliefs_at}
use Rattle.pw_sessions.specs.Reply.{LineReading, Blank, Says}

-- the premises that are believed or named to choose from
abbrev pub tried_with : Premises → List (List ℕ) → Premises
tried_with beliefs groups = union beliefs (from_list (all_of groups))

-- the premises that the command's user tries, with these beliefs: the beliefs, and what the command
-- names to choose from
abbrev pub tried_by : Premises → Command → Premises
tried_by beliefs (commands.Choose user groups) = tried_with beliefs (groups_of groups)
tried_by beliefs command = beliefs

-- what the command's user tries after lines with these readings
abbrev pub tried_in : Declared → List LineReading → Command → Premises
tried_in d before command = tried_by (beliefs_at d (user_of command) before) command

-- the premises that the user tries at a line, if it is the user's own choose line
abbrev pub tried_at : Declared → ℕ → List LineReading → LineReading → List Premises
tried_at d user before (Says (commands.Choose other groups)) =
    if other == user then tried_with (beliefs_at d user before) (groups_of groups) ∷ [] else []
tried_at d user before reading = []

-- the same at each of further lines
abbrev pub tried_from : Declared → ℕ → List LineReading → List LineReading → List Premises
tried_from d user before [] = []
tried_from d user before (reading ∷ readings) =
    tried_at d user before reading ++ tried_from d user (before ++ reading ∷ []) readings

-- a user who tries these sets at later lines rests on the line: it tells or attaches under premises
-- that are all in one of them, or it is the user's own and changes the beliefs
abbrev pub rests_on : ℕ → List Premises → LineReading → Bool
rests_on user later (Says (commands.Tell other cell fact)) =
    list_any (λ tried. is_subset fact.support tried) later
rests_on user later (Says (commands.Attach other callable cells support)) =
    list_any (λ tried. is_subset support tried) later
rests_on user later (Says (commands.Believe other premises)) = other == user
rests_on user later (Says (commands.Doubt other premises)) = other == user
rests_on user later (Says (commands.Choose other groups)) = other == user
rests_on user later reading = false

-- the line, or a blank one in its place
abbrev pub kept_if : Bool → LineReading → LineReading
kept_if keeps reading = if keeps then reading else Blank

-- further lines, after lines with these readings, with each line blanked that the user does not rest on. This is what the
-- user tries at the last line
abbrev pub blanked_from : Declared → ℕ → Premises → List LineReading → List LineReading → List LineReading
blanked_from d user last before [] = []
blanked_from d user last before (reading ∷ readings) =
    kept_if (rests_on user (tried_from d user (before ++ reading ∷ []) readings ++ last ∷ []) reading)
    reading
    ∷ blanked_from d user last (before ++ reading ∷ []) readings

-- all lines blanked
abbrev pub all_blank : List LineReading → List LineReading
all_blank [] = []
all_blank (reading ∷ readings) = Blank ∷ all_blank readings

-- the lines before the last, with each line blanked that its reply does not rest on; a blank or
-- refused line rests on no line
abbrev pub blanked_for : Declared → List LineReading → LineReading → List LineReading
blanked_for d before (Says command) =
    blanked_from d (user_of command) (tried_in d before command) [] before
blanked_for d before reading = all_blank before
