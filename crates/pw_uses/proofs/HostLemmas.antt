-- What a host knows after each command that was not refused.
use Rattle.std.proofs.Common.{◌≡◌, ℕ, ◌+◌, ◌<◌, ◌≤◌, List, [], ◌∷◌, ◌++◌, length, refl, sym, ap, ◌∙◌, subst, append-nil, arith}
use Rattle.std.specs.FinSet.{difference, empty}
use Rattle.pw_info.specs.declared.info.Info.{Info}
use Rattle.pw_premises.specs.Premises.{Premises}
use Rattle.pw_procs.specs.Registry.{cells_of}
use Rattle.pw_decl.specs.Declaration.{Declared}
use Rattle.pw_network.specs.Network.{last_attachment_line}
use Rattle.pw_sessions.specs.declared.command.Command.{Command}
use Rattle.pw_sessions.specs.declared.command.Command.TheVariants as commands
use Rattle.pw_sessions.specs.Reply.{Reply}
use Rattle.pw_sessions.specs.Reply as reply
use Rattle.pw_sessions.specs.declared.reply.Refusal.TheVariants as refusal
use Rattle.pw_sessions.specs.Values.{cell_value, visible_in}
use Rattle.pw_sessions.specs.Beliefs.{all_premises}
use Rattle.pw_sessions.specs.Carrying.{CanBeCarriedOut, CarriesOut, IsAnswered}
use Rattle.pw_sessions.specs.Entries.{Told, Attached}
use Rattle.pw_sessions.specs.Reply.{LineReading, Says}
use Rattle.pw_sessions.specs.Command.{IsDeclared}
use Rattle.pw_sessions.specs.Workbench.{Workbench, IsCarriedOut, IsLeftBy}
use Rattle.pw_sessions.proofs.BlankLines.{answered}
use Rattle.pw_uses.specs.declared.host.Matter.{Matter}
use Rattle.pw_uses.specs.Host.{IsOfDeclared, value_for}

module _ (d : Declared) (before : List LineReading) (old : Workbench) (command : Command) (left : IsLeftBy d before old)
    (named : IsDeclared d (Says command)) where
  -- the next command can be carried out
  pub next_can : (line : ℕ) → length before + 1 ≡ line → line ≤ last_attachment_line → CanBeCarriedOut old line command
  next_can line at most =
      record { declared = d; before = before; left = left; next = omega (arith, at); most = most; names = named }

  -- and where it is not refused, it is answered
  pub next_answered : (line : ℕ) (new : Workbench) (given : Reply) → length before + 1 ≡ line → CarriesOut old line command new given →
      (given ≡ reply.Refused refusal.Memory → ⊥) → IsAnswered d before command new given
  next_answered line new given at out plain =
      let carried : IsCarriedOut d before command new given =
      subst (λ (l : List LineReading). IsCarriedOut d l command new given) (append-nil before) (out d before 0 left (omega (arith, at)) named) in
      answered d before command new given carried plain

-- a command under another name
pub can_by : (old : Workbench) (line : ℕ) (x y : Command) → x ≡ y → CanBeCarriedOut old line y → CanBeCarriedOut old line x
can_by old line x y same can = subst (λ (command : Command). CanBeCarriedOut old line command) (sym same) can

pub out_by : (old : Workbench) (line : ℕ) (x y : Command) (new : Workbench) (given : Reply) → x ≡ y → CarriesOut old line x new given →
    CarriesOut old line y new given
out_by old line x y new given same out = subst (λ (command : Command). CarriesOut old line command new given) same out

-- a reply that is no refusal
pub done_is_none : reply.Done ≡ reply.Refused refusal.Memory → ⊥
done_is_none e = cc

pub value_is_none : (info : Info) → reply.Value info ≡ reply.Refused refusal.Memory → ⊥
value_is_none info e = cc

-- ---- what two users ask for

module _ (d : Declared) (matter : Matter) (of : IsOfDeclared d matter) (support : Premises) where
  -- the commands, line by line
  abbrev pub attach : Command
  attach = commands.Attach 0 matter.callable matter.cells support

  abbrev pub tell : Command
  tell = commands.Tell 1 matter.told matter.fact

  abbrev pub doubt : Command
  doubt = commands.Doubt 0 matter.doubted

  -- the lines after which both ask
  abbrev pub said : List LineReading
  said = Says attach ∷ Says tell ∷ Says doubt ∷ []

  doubt_named : IsDeclared d (Says doubt)
  doubt_named = (omega (arith, of.users), tt)

  ask_named : (user : ℕ) → user < 2 → IsDeclared d (Says (commands.Ask user matter.asked))
  ask_named user one = (omega (arith, of.users, one), of.asked)

  module _ (old : Workbench) where
    pub can_attach : IsLeftBy d [] old → CanBeCarriedOut old 1 attach
    can_attach left = next_can d [] old attach left of.attached 1 refl (omega arith)

    pub attached : (new : Workbench) → IsLeftBy d [] old → CarriesOut old 1 attach new reply.Done → IsLeftBy d (Says attach ∷ []) new
    attached new left out = (next_answered d [] old attach left of.attached 1 new reply.Done refl out done_is_none).left

    pub can_tell : IsLeftBy d (Says attach ∷ []) old → CanBeCarriedOut old 2 tell
    can_tell left = next_can d (Says attach ∷ []) old tell left of.told 2 refl (omega arith)

    pub told : (new : Workbench) → IsLeftBy d (Says attach ∷ []) old → CarriesOut old 2 tell new reply.Done → IsLeftBy d (Says attach ∷ Says tell ∷ []) new
    told new left out = (next_answered d (Says attach ∷ []) old tell left of.told 2 new reply.Done refl out done_is_none).left

    pub can_doubt : IsLeftBy d (Says attach ∷ Says tell ∷ []) old → CanBeCarriedOut old 3 doubt
    can_doubt left = next_can d (Says attach ∷ Says tell ∷ []) old doubt left doubt_named 3 refl (omega arith)

    pub doubted : (new : Workbench) → IsLeftBy d (Says attach ∷ Says tell ∷ []) old → CarriesOut old 3 doubt new reply.Done → IsLeftBy d said new
    doubted new left out = (next_answered d (Says attach ∷ Says tell ∷ []) old doubt left doubt_named 3 new reply.Done refl out done_is_none).left

    pub can_ask : IsLeftBy d said old → CanBeCarriedOut old 4 (commands.Ask 0 matter.asked)
    can_ask left = next_can d said old (commands.Ask 0 matter.asked) left (ask_named 0 (omega arith)) 4 refl (omega arith)

    pub can_ask_too : IsLeftBy d (said ++ Says (commands.Ask 0 matter.asked) ∷ []) old → CanBeCarriedOut old 5 (commands.Ask 1 matter.asked)
    can_ask_too left =
        next_can d (said ++ Says (commands.Ask 0 matter.asked) ∷ []) old (commands.Ask 1 matter.asked) left (ask_named 1 (omega arith)) 5 refl (omega arith)

    -- the answer to the user who doubts
    first_asked : (new : Workbench) (info : Info) → IsLeftBy d said old → CarriesOut old 4 (commands.Ask 0 matter.asked) new (reply.Value info) →
        IsAnswered d said (commands.Ask 0 matter.asked) new (reply.Value info)
    first_asked new info left out =
        next_answered d said old (commands.Ask 0 matter.asked) left (ask_named 0 (omega arith)) 4 new (reply.Value info) refl out (value_is_none info)

    pub asked : (new : Workbench) (info : Info) → IsLeftBy d said old → CarriesOut old 4 (commands.Ask 0 matter.asked) new (reply.Value info) →
        IsLeftBy d (said ++ Says (commands.Ask 0 matter.asked) ∷ []) new
    asked new info left out = (first_asked new info left out).left

    pub doubting : (new : Workbench) (info : Info) → support ≡ empty → IsLeftBy d said old →
        CarriesOut old 4 (commands.Ask 0 matter.asked) new (reply.Value info) →
        reply.Value info ≡ value_for d matter (difference (all_premises d) matter.doubted)
    doubting new info none left out =
        (first_asked new info left out).answer
        ∙ ap (λ (s : Premises). reply.Value (cell_value d
        (visible_in (Attached 1 matter.callable (cells_of matter.cells) s ∷ Told 2 matter.told matter.fact ∷ []) (difference (all_premises d) matter.doubted))
        matter.asked)) none

    -- the answer to the other user
    pub trusting : (new : Workbench) (info : Info) → support ≡ empty → IsLeftBy d (said ++ Says (commands.Ask 0 matter.asked) ∷ []) old →
        CarriesOut old 5 (commands.Ask 1 matter.asked) new (reply.Value info) → reply.Value info ≡ value_for d matter (all_premises d)
    trusting new info none left out =
        (next_answered d (said ++ Says (commands.Ask 0 matter.asked) ∷ []) old (commands.Ask 1 matter.asked) left (ask_named 1 (omega arith)) 5 new
        (reply.Value info) refl out (value_is_none info)).answer
        ∙ ap (λ (s : Premises). reply.Value (cell_value d
        (visible_in (Attached 1 matter.callable (cells_of matter.cells) s ∷ Told 2 matter.told matter.fact ∷ []) (all_premises d)) matter.asked)) none
