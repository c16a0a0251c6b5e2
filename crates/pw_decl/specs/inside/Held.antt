-- What fields in the code keep of compounds, of what they become, and of declarations.
use Rattle.std.specs.Prelude.{◌≡◌, ℕ, ◌+◌, ◌<◌, List, [], ◌∷◌, ◌++◌, All, Some, length, map}
use Rattle.std.specs.Prelude.{slice_get, Option}
use Rattle.pw_info.specs.declared.kind.Kind.{Kind}
use Rattle.pw_procs.specs.Registry.{cells_of, procedures_in}
use Rattle.pw_decl.specs.declared.flat_call.FlatCall.{FlatCall}
use Rattle.pw_decl.specs.declared.flat_call.Flattened.{Flattened}
use Rattle.pw_decl.specs.Compound.{Compound, Step, NewCell, CallOn, Size}
use Rattle.pw_decl.specs.Expansion.{Instance, Expands, instance_on, inner_of_steps, inner_after}
use Rattle.pw_decl.specs.Expansion.{inner_kinds_of, expand_steps, expand_after, expansion_of}
use Rattle.pw_decl.specs.Expansion.{on_places, renamed, at_place}
use Rattle.pw_procs.specs.declared.registry.Registry.{Registry}
use Rattle.pw_decl.specs.declared.step.Step.{Step as StepType}
use Rattle.pw_decl.specs.declared.compound.Compound.{Compound as CompoundType}
use Rattle.pw_decl.specs.declared.compound.Size.{Size as SizeType}
use Rattle.pw_decl.specs.declared.version.Version.{Version}
use Rattle.pw_decl.specs.Declaration.{Declared}
use Rattle.std.proofs.Props.{props}
use Rattle.pw_info.specs.SetNames.{SetNames, IsNamed}
use Rattle.pw_decl.specs.declared.step.Callable.TheVariants as callables
use Rattle.pw_decl.specs.declared.step.Step.TheVariants as kept
use Rattle.pw_info.specs.declared.kind.Kind.TheVariants as kinds

-- the instances of calls, in order
abbrev pub instances_of : List FlatCall → List (Instance ℕ)
instances_of [] = []
instances_of (call ∷ calls) = instance_on call.procedure (cells_of call.places)
    ++ instances_of calls

-- each place of the call is below this number
abbrev pub IsBelow : ℕ → FlatCall → Type 0
IsBelow count call = All (λ place. place < count) (cells_of call.places)

-- the expansions of compounds, given how each expands, each on its own places: its parameters, and
-- then its inner cells
abbrev pub on_own_places : List (Expands ℕ) → List Compound → List (List (Instance ℕ))
on_own_places (expands ∷ rest) (compound ∷ compounds) =
    on_places expands (length compound.parameters) ∷ on_own_places rest compounds
on_own_places rest compounds = []

-- the expansions of compounds, each on its own places
abbrev pub calls_of : List Compound → List (List (Instance ℕ))
calls_of compounds = on_own_places (expand_after [] [] compounds) compounds

-- the stored instances of compounds
abbrev pub calls_held : {A : Type 0} → List (Flattened A) → List (List (Instance ℕ))
calls_held flattened = map (λ kept. instances_of kept.calls.items) flattened

-- the stored kinds of their inner cells
abbrev pub inner_held : {A : Type 0} → List (Flattened A) → List (List Kind)
inner_held flattened = map (λ kept. kept.inner.items) flattened

-- this is the expansion of a compound after these, on its places
pub record IsFlattened {A : Type 0} (compounds : List Compound) (compound : Compound)
    (kept : Flattened A) : Type 0 where
  pub calls : instances_of kept.calls.items
      ≡ on_places (expand_steps (inner_after [] compounds) (expand_after [] [] compounds)
      compound.steps) (length compound.parameters)
  pub inner : kept.inner.items ≡ inner_of_steps (inner_after [] compounds) compound.steps

-- the calls are the expansion of the compound of this number on its places: its parameters, and
-- then its inner cells
pub record AreCallsOf (compounds : List Compound) (number : ℕ) (calls : List FlatCall)
    : Type 0 where
  pub compound : Compound
  pub is : slice_get compounds number ≡ Some compound
  pub calls_are : instances_of calls ≡ on_places
      (expansion_of compounds (callables.Compound number)) (length compound.parameters)
  pub below : All (IsBelow (length compound.parameters + length
      (inner_kinds_of compounds (callables.Compound number)))) calls

-- a line of a compound
abbrev pub step_of : StepType → Step
step_of (kept.Local kind) = NewCell kind
step_of (kept.Call callable arguments) = CallOn callable (cells_of arguments)

-- lines of a compound
abbrev pub steps_of : List StepType → List Step
steps_of steps = map step_of steps

abbrev pub size_of : SizeType → Size
size_of size = record { instances = size.instances; inner_cells = size.inner_cells }

-- a compound
abbrev pub compound_of : {A : Type 0} → CompoundType A → Compound
compound_of c = record { parameters = c.parameters.items; steps = map step_of c.steps.items }

-- compounds, without the sizes stored with them
abbrev pub compounds_of : {A : Type 0} → List (CompoundType A) → List Compound
compounds_of compounds = map compound_of compounds

abbrev pub sizes_held : {A : Type 0} → List (CompoundType A) → List Size
sizes_held compounds = map (λ c. size_of c.size) compounds

-- what the fields declare
abbrev pub declared_from : {A : Type 0} {R : _} {X : Type 0} {F : X → Type 0} {C : _} →
    Registry R X F C → Version →
    (users premises : List (List ℕ)) (owners : List (Option ℕ)) (cells : List (List ℕ))
    (kinds : List Kind) →
    (set_names : List (List ℕ)) (sets : List (List (List ℕ))) (compound_names : List (List ℕ)) →
    List (CompoundType A) → Declared
declared_from registry version users premises owners cells kinds set_names sets compound_names
    compounds =
    record {
      procedures = procedures_in registry;
      version = version;
      users = users;
      premises = premises;
      owners = owners;
      cells = cells;
      kinds = kinds;
      set_names = set_names;
      sets = sets;
      compound_names = compound_names;
      compounds = compounds_of compounds;
    }

pub named_prop : (members : SetNames) (kind : Kind) → IsProp (IsNamed members kind)
named_prop members kinds.Interval = Prim.hlevel props
named_prop members (kinds.Members set) = Prim.hlevel props
named_prop members kinds.Exact = Prim.hlevel props

-- what calls over places are on these cells, with inner cells from this number on
abbrev pub instances_on : List ℕ → ℕ → List FlatCall → List (Instance ℕ)
instances_on cells first calls = map (renamed (at_place cells (λ j.
    first + j))) (instances_of calls)
