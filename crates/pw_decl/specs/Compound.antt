-- Compounds: propagators that a declaration builds from procedures and from earlier compounds.
use Rattle.std.specs.Prelude.{◌≡◌, ℕ, ◌+◌, ◌<◌, List, [], ◌∷◌, ◌++◌, All, length, Some, slice_get}
use Rattle.std.specs.Prelude.{slice_index_or, ◌⊎◌}
use Rattle.std.specs.List.{filter_map}
use Rattle.pw_info.specs.declared.kind.Kind.{Kind}
use Rattle.pw_procs.specs.Procedure.{Procedure}
use Rattle.pw_procs.specs.Signature.{Accepts}
use Rattle.pw_decl.specs.declared.step.Callable.{Callable}
use Rattle.pw_decl.specs.declared.step.Callable.TheVariants as callables
use Rattle.pw_decl.specs.Limits.{most_instances, most_inner_cells}

-- a line of a compound: a private cell of this kind, or a callable over cells of the compound.
-- Cells are given by their places: the parameters from 0, and then the private cells, in the order
-- of their lines
pub data Step : Type 0 where
  NewCell : (kind : Kind) → Step
  CallOn : (callable : Callable) (places : List ℕ) → Step

-- a compound: the kinds of its parameters, and its lines
pub record Compound : Type 0 where
  pub parameters : List Kind
  pub steps : List Step

-- the kinds of the private cells of lines
abbrev pub new_kinds : List Step → List Kind
new_kinds [] = []
new_kinds (NewCell kind ∷ steps) = kind ∷ new_kinds steps
new_kinds (CallOn callable places ∷ steps) = new_kinds steps

-- the kinds of all cells of a compound, by their places
abbrev pub cell_kinds : Compound → List Kind
cell_kinds compound = compound.parameters ++ new_kinds compound.steps

-- the compound with one more line
abbrev pub with_step : Compound → Step → Compound
with_step compound step = record compound { steps = compound.steps ++ step ∷ [] }

-- ---- what a callable takes, among these procedures and these compounds

-- the callable accepts cells of these kinds: a procedure by its signature, the output last; a
-- compound takes cells of the kinds of its parameters
abbrev pub AcceptsKinds : List Procedure → List Compound → Callable → List Kind → Type 0
AcceptsKinds procedures compounds (callables.Stored number) kinds =
    (procedure : Procedure) × (slice_get procedures number ≡ Some procedure)
    × Accepts procedure.signature kinds
AcceptsKinds procedures compounds (callables.Compound number) kinds =
    (compound : Compound) × (slice_get compounds number ≡ Some compound)
    × (kinds ≡ compound.parameters)

-- the callable exists
abbrev pub IsThere : List Procedure → List Compound → Callable → Type 0
IsThere procedures compounds (callables.Stored number) = number < length procedures
IsThere procedures compounds (callables.Compound number) = number < length compounds

-- the kinds at these places
abbrev pub kinds_at : List Kind → List ℕ → List Kind
kinds_at kinds places = filter_map (slice_get kinds) places

-- the lines name only earlier things, in a compound that so far has cells of these kinds: each call
-- names places of existing cells, and its callable accepts their kinds
abbrev pub AreSteps : List Procedure → List Compound → List Kind → List Step → Type 0
AreSteps procedures compounds kinds [] = Unit {0}
AreSteps procedures compounds kinds (NewCell kind ∷ steps) =
    AreSteps procedures compounds (kinds ++ kind ∷ []) steps
AreSteps procedures compounds kinds (CallOn callable places ∷ steps) =
    All (λ place. place < length kinds) places
    × AcceptsKinds procedures compounds callable (kinds_at kinds places)
    × AreSteps procedures compounds kinds steps

-- each compound after the known ones names only earlier things
abbrev pub AreCompoundsAfter : List Procedure → List Compound → List Compound → Type 0
AreCompoundsAfter procedures known [] = Unit {0}
AreCompoundsAfter procedures known (compound ∷ compounds) =
    AreSteps procedures known compound.parameters compound.steps
    × AreCompoundsAfter procedures (known ++ compound ∷ []) compounds

-- ---- the size of an expansion

-- a number of instances of procedures, and a number of inner cells
pub record Size : Type 0 where
  pub instances : ℕ
  pub inner_cells : ℕ

abbrev pub no_size : Size
no_size = record { instances = 0; inner_cells = 0 }

abbrev pub sum_of_sizes : Size → Size → Size
sum_of_sizes a b = record {
  instances = a.instances + b.instances;
  inner_cells =
      a.inner_cells + b.inner_cells;
}

-- the size of a callable, where the compounds have these sizes: a procedure is one instance
abbrev pub size_of_callable : List Size → Callable → Size
size_of_callable sizes (callables.Stored number) = record { instances = 1; inner_cells = 0 }
size_of_callable sizes (callables.Compound number) = slice_index_or sizes number no_size

-- a private cell is one inner cell
abbrev pub size_of_local : Size
size_of_local = record { instances = 0; inner_cells = 1 }

-- the size of a line; a call has the size of its callable
abbrev pub size_of_step : List Size → Step → Size
size_of_step sizes (NewCell kind) = size_of_local
size_of_step sizes (CallOn callable places) = size_of_callable sizes callable

-- the size of lines: the sum of their sizes
abbrev pub size_of_steps : List Size → List Step → Size
size_of_steps sizes [] = no_size
size_of_steps sizes (step ∷ steps) = sum_of_sizes (size_of_step sizes step)
    (size_of_steps sizes steps)

-- the sizes of compounds, each from the sizes of the compounds before it: first the known sizes,
-- and then these
abbrev pub sizes_after : List Size → List Compound → List Size
sizes_after sizes [] = sizes
sizes_after sizes (compound ∷ compounds) = sizes_after (sizes
    ++ size_of_steps sizes compound.steps ∷ []) compounds

-- the sizes of compounds, in their order
abbrev pub sizes_of : List Compound → List Size
sizes_of compounds = sizes_after [] compounds

-- the size is too large for an expansion
abbrev pub IsTooLarge : Size → Type 0
IsTooLarge size = (most_instances < size.instances) ⊎ (most_inner_cells < size.inner_cells)
