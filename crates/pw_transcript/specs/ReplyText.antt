-- The text of replies.
use Rattle.std.specs.Prelude.{ℕ, ◌+◌, ◌<◌, All, List, [], ◌∷◌, ◌++◌, Option, Some, None, codes}
use Rattle.std.specs.Prelude.{IfSome, filter, length, map}
use Rattle.std.specs.FinSet.{contains}
use Rattle.std.specs.Fmt.{decimal}
use Rattle.std.specs.List.{flat_map, range_with_len}
use Rattle.pw_info.specs.Bytes.{space}
use Rattle.pw_info.specs.Information.{kind_of}
use Rattle.pw_info.specs.SetNames.{IsNamed, name_at}
use Rattle.pw_info.specs.Text.{text_of_info}
use Rattle.pw_premises.specs.Premises.{Premises}
use Rattle.pw_reasons.specs.Conflicts.{Conflicts}
use Rattle.pw_sessions.specs.Reply.{Reply}
use Rattle.pw_sessions.specs.Reply as reply
use Rattle.pw_sessions.specs.declared.reply.Refusal.{Refusal}
use Rattle.pw_sessions.specs.declared.reply.Refusal.TheVariants as refusal
use Rattle.pw_decl.specs.Declaration.{Declared, members_of}

-- the number and the words of a refusal
abbrev pub text_of_refusal : Refusal → List ℕ
text_of_refusal refusal.Syntax = codes "1 syntax"
text_of_refusal refusal.UnknownUser = codes "2 unknown user"
text_of_refusal refusal.UnknownCommand = codes "3 unknown command"
text_of_refusal refusal.UnknownCell = codes "4 unknown cell"
text_of_refusal refusal.UnknownPremise = codes "5 unknown premise"
text_of_refusal refusal.UnknownProcedure = codes "6 unknown procedure"
text_of_refusal refusal.NotYourPremise = codes "7 not your premise"
text_of_refusal refusal.WrongInformation = codes "8 wrong information"
text_of_refusal refusal.WrongArguments = codes "9 wrong arguments"
text_of_refusal refusal.LineTooLong = codes "10 line too long"
text_of_refusal refusal.Memory = codes "11 memory"

-- the names of the declared premises among these, in declared order
abbrev pub premise_names : Declared → Premises → List (List ℕ)
premise_names d premises = map (name_at d.premises)
    (filter (contains premises) (range_with_len 0 (length d.premises)))

-- a name after a space
abbrev pub after_space : List ℕ → List ℕ
after_space name = space ∷ name

-- names, each after a space; if there are none, `none` after a space
abbrev pub text_of_names : List (List ℕ) → List ℕ
text_of_names [] = codes " none"
text_of_names (name ∷ names) = flat_map after_space (name ∷ names)

-- the names of what is contradictory: for each cell its own name, and for the attachment of line N
-- `line N`
abbrev pub conflict_names : Declared → Conflicts → List (List ℕ)
conflict_names d conflicts = map (name_at d.cells) conflicts.cells
    ++ map (λ line. codes "line " ++ decimal line) conflicts.lines

-- the names of the premises that were chosen, each after a space; if none were, `none` after a
-- space
abbrev pub text_of_chosen : Declared → Option (List ℕ) → List ℕ
text_of_chosen d None = codes " none"
text_of_chosen d (Some taken) = flat_map after_space (map (name_at d.premises) taken)

-- the premises that were chosen are declared
abbrev pub AreChosenNamed : Declared → Option (List ℕ) → Type 0
AreChosenNamed d chosen = IfSome chosen (All (λ premise. premise < length d.premises))

-- everything in the reply has names: every member of the kind of a value, each cell that is
-- listed, and each premise that was chosen
abbrev pub IsReplyNamed : Declared → Reply → Type 0
IsReplyNamed d (reply.Value info) = IsNamed (members_of d) (kind_of info)
IsReplyNamed d (reply.Because info premises) = IsNamed (members_of d) (kind_of info)
IsReplyNamed d (reply.Listed conflicts) = All (λ cell. cell < length d.cells) conflicts.cells
IsReplyNamed d (reply.Chose taken) = AreChosenNamed d taken
IsReplyNamed d reply = Unit {0}

-- the content of a reply
abbrev pub text_of_answer : Declared → Reply → List ℕ
text_of_answer d reply.Done = codes "ok"
text_of_answer d (reply.Value info) = text_of_info (members_of d) info
text_of_answer d (reply.Because info premises) =
    text_of_info (members_of d) info ++ codes " because" ++ text_of_names (premise_names d premises)
text_of_answer d (reply.Listed conflicts) = codes "conflicts"
    ++ text_of_names (conflict_names d conflicts)
text_of_answer d (reply.Believes premises) = codes "believes"
    ++ text_of_names (premise_names d premises)
text_of_answer d (reply.Chose taken) = codes "chose" ++ text_of_chosen d taken
text_of_answer d (reply.Refused refusal) = codes "refused " ++ text_of_refusal refusal

-- a reply as it is written: the number of its line, a colon and a space, its content, and a line
-- feed
abbrev pub text_of_reply : Declared → ℕ → Reply → List ℕ
text_of_reply d number reply = (decimal number ++ codes ": ")
    ++ (text_of_answer d reply ++ codes "\n")

-- the text of the reply to a line, if it gets one
abbrev pub text_if_any : Declared → ℕ → Option Reply → List ℕ
text_if_any d number None = []
text_if_any d number (Some reply) = text_of_reply d number reply

-- the replies to lines, of which the first has this number, one after another and nothing else
abbrev pub text_from : Declared → ℕ → List (Option Reply) → List ℕ
text_from d number [] = []
text_from d number (reply ∷ replies) = text_if_any d number reply
    ++ text_from d (number + 1) replies

-- the text of the replies to the lines of a transcript
abbrev pub text_of_replies : Declared → List (Option Reply) → List ℕ
text_of_replies d replies = text_from d 1 replies
