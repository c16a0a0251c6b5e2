-- Blank lines leave a workbench unchanged, so a command may come after any number of them; and what
-- its line leaves then.
use Rattle.std.proofs.Common.{◌≡◌, ℕ, zero, suc, ◌+◌, ◌<◌, List, [], ◌∷◌, ◌++◌, length, replicate, Some, inl, inr, refl, sym, ap, ◌∙◌, subst, append-nil, append_assoc, length-append, arith}
use Rattle.std.proofs.lemmas.List.{length-replicate}
use Rattle.pw_decl.specs.Declaration.{Declared}
use Rattle.pw_decl.specs.WellDeclared.{IsWellDeclared}
use Rattle.pw_sessions.specs.declared.command.Command.{Command}
use Rattle.pw_sessions.specs.Reply.{Reply}
use Rattle.pw_sessions.specs.Reply as reply
use Rattle.pw_sessions.specs.declared.reply.Refusal.TheVariants as refusal
use Rattle.pw_sessions.specs.Answer.{answer_to, reply_to, user_of}
use Rattle.pw_sessions.specs.Beliefs.{beliefs_at}
use Rattle.pw_sessions.specs.Carrying.{CanBeCarriedOut, IsAnswered, IsUserOf}
use Rattle.pw_sessions.specs.Entries.{entries_before}
use Rattle.pw_sessions.specs.Reply.{LineReading, Blank, Says, and_blank_lines}
use Rattle.pw_sessions.specs.Command.{IsDeclared}
use Rattle.pw_sessions.specs.inside.Steps.{CanCarryOut}
use Rattle.pw_sessions.specs.Command.{MayBecome}
use Rattle.pw_sessions.specs.Workbench.{Workbench, IsCarriedOut, IsLeftBy}
use Rattle.pw_sessions.proofs.NextLines.{next_left}
use Rattle.pw_sessions.proofs.WorkbenchLemmas.{left_same}

-- a workbench after some lines is one after blank lines too
pub left_blanks : (d : Declared) (before : List LineReading) (blanks : ℕ) (bench : Workbench) → IsWellDeclared d → IsLeftBy d before bench →
    IsLeftBy d (and_blank_lines before blanks) bench
left_blanks d before zero bench well left = subst (λ (l : List LineReading). IsLeftBy d l bench) (sym (append-nil before)) left
left_blanks d before (suc blanks) bench well left =
    subst (λ (l : List LineReading). IsLeftBy d l bench) (append_assoc before (Blank ∷ []) (replicate blanks Blank))
    (left_blanks d (before ++ Blank ∷ []) blanks bench well (left_same d well.kinds before Blank bench left (λ n. refl) (λ user beliefs. refl)))

-- and they count
pub count_blanks : (before : List LineReading) (blanks : ℕ) → length (and_blank_lines before blanks) ≡ length before + blanks
count_blanks before blanks = length-append before (replicate blanks Blank) ∙ ap (λ n. length before + n) (length-replicate blanks Blank)

-- a command that can be carried out is one that the workbench can carry out
pub can_carry_out : (bench : Workbench) (line : ℕ) (command : Command) → CanBeCarriedOut bench line command → CanCarryOut bench line command
can_carry_out bench line command can =
    let is : can.declared ≡ bench.network.declared = sym can.left.set_up.declared in
    record {
      set_up = rw is at can.left.set_up;
      declared = subst (λ (e : Declared). IsDeclared e (Says command)) is can.names;
      next = omega (arith, next_left can.declared can.before bench can.left, can.next);
      most = can.most;
    }

-- a user of a workbench has beliefs there
pub user_is_there : (bench : Workbench) (user : ℕ) → IsUserOf bench user → user < length bench.beliefs
user_is_there bench user is = omega (arith, is.there, is.left.set_up.users)

-- and is declared, for all lines that left it
pub user_is_declared : (d : Declared) (before : List LineReading) (bench : Workbench) (user : ℕ) → IsUserOf bench user → IsLeftBy d before bench →
    user < length d.users
user_is_declared d before bench user is left = omega (arith, user_is_there bench user is, left.set_up.users)

-- ---- a command that is not refused

-- the reply that a reading gets, by what the line came to
answered_by : (d : Declared) (before : List LineReading) (command : Command) (reading : LineReading) (new : Workbench) (given : Reply) →
    MayBecome d before command reading → IsLeftBy d (before ++ reading ∷ []) new → reply_to d before reading ≡ Some given →
    (given ≡ reply.Refused refusal.Memory → ⊥) → IsAnswered d before command new given
answered_by d before command reading new given (inl says) left replied plain =
    let answer : Reply = answer_to d (entries_before before) (beliefs_at d (user_of command) before) command in
    let is : Some answer ≡ Some given = ap (reply_to d before) (sym says) ∙ replied in
    let same : answer ≡ given = cc in
    record { left = subst (λ (r : LineReading). IsLeftBy d (before ++ r ∷ []) new) says left; answer = sym same }
answered_by d before command reading new given (inr (refused, takes)) left replied plain =
    let is : Some (reply.Refused refusal.Memory) ≡ Some given = ap (reply_to d before) (sym refused) ∙ replied in
    let same : reply.Refused refusal.Memory ≡ given = cc in
    absurd (plain (sym same))

-- its line left what it says
pub answered : (d : Declared) (before : List LineReading) (command : Command) (new : Workbench) (given : Reply) →
    IsCarriedOut d before command new given → (given ≡ reply.Refused refusal.Memory → ⊥) → IsAnswered d before command new given
answered d before command new given out plain = answered_by d before command out.reading new given out.became out.left out.replied plain
