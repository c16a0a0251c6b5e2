-- What a host knows of a sum, and after each of its commands about it.
use Rattle.std.proofs.Common.{◌≡◌, ℕ, ◌<◌, List, [], ◌∷◌, Some, length, refl, sym, ap, ◌∙◌, subst, arith, codes, slice_get}
use Rattle.std.specs.Prelude.{All, IfOk, IfErr, Result, Ok, Err}
use Rattle.std.specs.FinSet.{empty}
use Rattle.std.proofs.lemmas.List.Elements.{All-cons, All-nil}
use Rattle.std.proofs.lemmas.Option.{slice_get-get_or}
use Rattle.pw_kinds.specs.declared.interval.Interval.{Interval}
use Rattle.pw_info.specs.declared.info.Info.{Info}
use Rattle.pw_info.specs.declared.kind.Kind.TheVariants as kinds
use Rattle.pw_premises.specs.Premises.{Premises}
use Rattle.pw_premises.specs.PremiseSubsets.{empty_is_subset}
use Rattle.pw_decl.specs.declared.step.Callable.{Callable}
use Rattle.pw_decl.specs.declared.step.Callable.TheVariants as callables
use Rattle.pw_decl.specs.BuiltIn.{HasPrelude}
use Rattle.pw_decl.specs.Compound.{kinds_at}
use Rattle.pw_decl.specs.Declaration.{Declared, Takes, callable_named}
use Rattle.pw_sessions.specs.declared.command.Command.{Command}
use Rattle.pw_sessions.specs.declared.command.Command.TheVariants as commands
use Rattle.pw_sessions.specs.Beliefs.{beliefs_at}
use Rattle.pw_sessions.specs.Carrying.{CanBeCarriedOut, CarriesOut, IsAnswered}
use Rattle.pw_sessions.specs.Command.{IsDeclared}
use Rattle.pw_sessions.specs.Reply.{Reply, LineReading, Says}
use Rattle.pw_sessions.specs.Reply as reply
use Rattle.pw_sessions.specs.Values.{cell_value, visible_in}
use Rattle.pw_sessions.specs.Workbench.{Workbench, IsLeftBy}
use Rattle.pw_uses.specs.declared.sum.Sum.{Sum}
use Rattle.pw_standard.specs.Lending.{IsOverText}
use Rattle.pw_uses.specs.declared.answer.HostFault.{HostFault}
use Rattle.pw_uses.specs.declared.answer.HostFault.TheVariants as faults
use Rattle.pw_uses.specs.Rest.{IsRest, IsRestOrFault, IsFaultOfText}
use Rattle.pw_uses.specs.Sum.{IsIntervalCell, HasCells, IsSumIn, fact_of, entries_of}
use Rattle.pw_uses.proofs.HostLemmas.{next_can, next_answered, can_by, done_is_none, value_is_none}

-- ---- the sum of a declaration

kind_here : (d : Declared) (name : List ℕ) (cell : ℕ) → length d.kinds ≡ length d.cells → IsIntervalCell d name cell → slice_get d.kinds cell ≡ Some kinds.Interval
kind_here d name cell many is = slice_get-get_or d.kinds cell kinds.Interval (omega (arith, many, is.within)) ∙ ap Some is.kind

kinds_here : (d : Declared) (x y t : ℕ) → length d.kinds ≡ length d.cells → HasCells d x y t →
    kinds_at d.kinds (x ∷ y ∷ t ∷ []) ≡ kinds.Interval ∷ kinds.Interval ∷ kinds.Interval ∷ []
kinds_here d x y t many has =
    rw (kind_here d (codes "x") x many has.x_cell, kind_here d (codes "y") y many has.y_cell, kind_here d (codes "t") t many has.t_cell) refl

-- `sum` takes three cells of intervals
pub takes_them : (d : Declared) (x y t : ℕ) (callable : Callable) (cells : List ℕ) → HasPrelude d → length d.kinds ≡ length d.cells → HasCells d x y t →
    callable_named d (codes "sum") ≡ Some callable → cells ≡ x ∷ y ∷ t ∷ [] → Takes d callable (kinds_at d.kinds cells)
takes_them d x y t callable cells prelude many has called between =
    let same : callables.Compound 0 ≡ callable = cc (prelude.sum.called, called) in
    let kinds_are = ap (kinds_at d.kinds) between ∙ kinds_here d x y t many has in
    subst (λ (one : Callable). Takes d one (kinds_at d.kinds cells)) same
    (subst (Takes d (callables.Compound 0)) (sym kinds_are) prelude.sum.takes)

-- ---- line by line

-- the information of a reply with a value
abbrev info_in : Info → Reply → Info
info_in other (reply.Value info) = info
info_in other given = other

-- a command and its reply under other names
carried_as : (old : Workbench) (line : ℕ) (x y : Command) (new : Workbench) (a b : Reply) → x ≡ y → a ≡ b → CarriesOut old line x new a → CarriesOut old line y new b
carried_as old line x y new a b command given out =
    subst (λ (r : Reply). CarriesOut old line y new r) given (subst (λ (c : Command). CarriesOut old line c new a) command out)

module _ (d : Declared) (sum : Sum) (is : IsSumIn d sum) (x t : Interval) where
  abbrev pub attach : Command
  attach = commands.Attach 0 sum.callable sum.cells empty

  abbrev pub tell_x : Command
  tell_x = commands.Tell 0 sum.x (fact_of x)

  abbrev pub tell_t : Command
  tell_t = commands.Tell 0 sum.t (fact_of t)

  abbrev pub ask : Command
  ask = commands.Ask 0 sum.y

  abbrev pub one : List LineReading
  one = Says attach ∷ []

  abbrev pub two : List LineReading
  two = Says attach ∷ Says tell_x ∷ []

  abbrev pub three : List LineReading
  three = Says attach ∷ Says tell_x ∷ Says tell_t ∷ []

  attach_named : IsDeclared d (Says attach)
  attach_named =
      let there : All (λ cell. cell < length d.cells) (sum.x ∷ sum.y ∷ sum.t ∷ []) =
      All-cons (λ cell. cell < length d.cells) sum.x (sum.y ∷ sum.t ∷ []) is.cells.x_cell.within
      (All-cons (λ cell. cell < length d.cells) sum.y (sum.t ∷ []) is.cells.y_cell.within
      (All-cons (λ cell. cell < length d.cells) sum.t [] is.cells.t_cell.within (All-nil (λ cell. cell < length d.cells)))) in
      (is.cells.users, (subst (All (λ cell. cell < length d.cells)) (sym is.between) there, is.takes))

  x_named : IsDeclared d (Says tell_x)
  x_named = (is.cells.users, (is.cells.x_cell.within, sym is.cells.x_cell.kind))

  t_named : IsDeclared d (Says tell_t)
  t_named = (is.cells.users, (is.cells.t_cell.within, sym is.cells.t_cell.kind))

  ask_named : IsDeclared d (Says ask)
  ask_named = (is.cells.users, is.cells.y_cell.within)

  module _ (old : Workbench) (command : Command) where
    pub can_attach : command ≡ attach → IsLeftBy d [] old → CanBeCarriedOut old 1 command
    can_attach same left = can_by old 1 command attach same (next_can d [] old attach left attach_named 1 refl (omega arith))

    pub can_tell_x : command ≡ tell_x → IsLeftBy d one old → CanBeCarriedOut old 2 command
    can_tell_x same left = can_by old 2 command tell_x same (next_can d one old tell_x left x_named 2 refl (omega arith))

    pub can_tell_t : command ≡ tell_t → IsLeftBy d two old → CanBeCarriedOut old 3 command
    can_tell_t same left = can_by old 3 command tell_t same (next_can d two old tell_t left t_named 3 refl (omega arith))

    pub can_ask : command ≡ ask → IsLeftBy d three old → CanBeCarriedOut old 4 command
    can_ask same left = can_by old 4 command ask same (next_can d three old ask left ask_named 4 refl (omega arith))

    module _ (new : Workbench) (given : Reply) (done : given ≡ reply.Done) where
      pub attached : command ≡ attach → IsLeftBy d [] old → CarriesOut old 1 command new given → IsLeftBy d one new
      attached same left out =
          (next_answered d [] old attach left attach_named 1 new reply.Done refl (carried_as old 1 command attach new given reply.Done same done out) done_is_none).left

      pub told_x : command ≡ tell_x → IsLeftBy d one old → CarriesOut old 2 command new given → IsLeftBy d two new
      told_x same left out =
          (next_answered d one old tell_x left x_named 2 new reply.Done refl (carried_as old 2 command tell_x new given reply.Done same done out) done_is_none).left

      pub told_t : command ≡ tell_t → IsLeftBy d two old → CarriesOut old 3 command new given → IsLeftBy d three new
      told_t same left out =
          (next_answered d two old tell_t left t_named 3 new reply.Done refl (carried_as old 3 command tell_t new given reply.Done same done out) done_is_none).left

    -- what was made rests on no premise, so it is visible to everybody
    all_visible : (w : Premises) → visible_in (entries_of sum x t) w ≡ entries_of sum x t
    all_visible w = rw (empty_is_subset w) refl

    pub asked : (new : Workbench) (given : Reply) (info : Info) → given ≡ reply.Value info → command ≡ ask → IsLeftBy d three old →
        CarriesOut old 4 command new given → IsRest x t d info
    asked new given info valued same left out =
        let known : IsAnswered d three ask new (reply.Value info) =
        next_answered d three old ask left ask_named 4 new (reply.Value info) refl
        (carried_as old 4 command ask new given (reply.Value info) same valued out) (value_is_none info) in
        record {
          sum = sum;
          in_it = is;
          value = ap (info_in info) known.answer
              ∙ ap (λ entries. cell_value d entries sum.y) (all_visible (beliefs_at d 0 three));
        }

-- ---- what the host answers

pub answer_is : (x t : Interval) (d : Declared) (answer : Result Info HostFault) → IfOk answer (IsRest x t d) → IfErr answer (λ fault. fault ≡ faults.Memory) →
    IsRestOrFault x t d answer
answer_is x t d (Ok info) ok err = ok
answer_is x t d (Err faults.Memory) ok err = tt
answer_is x t d (Err faults.Lacking) ok err = absurd (cc)
answer_is x t d (Err (faults.Declaration fault)) ok err = absurd (cc)

pub answered : (x t : Interval) (text : List ℕ) (answer : Result Info HostFault) → IsOverText (IsRestOrFault x t) text answer → IfOk answer (IsOverText (IsRest x t) text)
answered x t text (Ok info) over =
    record { declared = over.declared; standard = over.standard; spells = over.spells; prelude = over.prelude; kept = over.kept }
answered x t text (Err fault) over = tt

pub refused : (x t : Interval) (text : List ℕ) (answer : Result Info HostFault) → IsOverText (IsRestOrFault x t) text answer → IfErr answer (IsFaultOfText text)
refused x t text (Ok info) over = tt
refused x t text (Err faults.Memory) over = tt
refused x t text (Err faults.Lacking) over = (over.declared, over.standard, over.spells, over.kept)
refused x t text (Err (faults.Declaration fault)) over = absurd over.kept
