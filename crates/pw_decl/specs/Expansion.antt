-- The expansion of a callable on cells: a procedure is one instance of itself, and a compound is
-- the expansion of its calls, in order.
use Rattle.std.specs.Prelude.{◌≡◌, ℕ, ◌+◌, List, [], ◌∷◌, ◌++◌, All, Some, zero, suc, map, take}
use Rattle.std.specs.Prelude.{length, slice_get, slice_index_or}
use Rattle.std.specs.List.{filter_map, range_with_len}
use Rattle.pw_info.specs.declared.kind.Kind.{Kind}
use Rattle.pw_decl.specs.declared.step.Callable.{Callable}
use Rattle.pw_decl.specs.declared.step.Callable.TheVariants as callables
use Rattle.pw_procs.specs.Procedure.{Procedure}
use Rattle.pw_decl.specs.Compound.{Compound, Step, NewCell, CallOn, AcceptsKinds, Size}

-- ---- instances

-- an instance of the procedure of this number: it reads these cells and writes that one. A cell is
-- anything that names one: its number in a network, or what its user calls it
pub record Instance (C : Type 0) : Type 0 where
  pub procedure : ℕ
  pub inputs : List C
  pub output : C

-- a procedure put between cells: it writes the last cell and reads the others
abbrev pub instance_on : {C : Type 0} → ℕ → List C → List (Instance C)
instance_on number [] = []
instance_on number (cell ∷ cells) =
    record {
      procedure = number;
      inputs = take (length cells) (cell ∷ cells);
      output =
          slice_index_or (cell ∷ cells) (length cells) cell;
    } ∷ []

-- the instance over other names of its cells
abbrev pub renamed : {C D : Type 0} → (C → D) → Instance C → Instance D
renamed name instance =
    record {
      procedure = instance.procedure;
      inputs = map name instance.inputs;
      output =
          name instance.output;
    }

-- ---- inner cells: each time a line of a compound that makes a private cell is reached, it makes
-- one more

-- the kinds of the inner cells of a callable, given those of the known compounds: a procedure has
-- none
abbrev pub inner_of_callable : List (List Kind) → Callable → List Kind
inner_of_callable known (callables.Stored number) = []
inner_of_callable known (callables.Compound number) = slice_index_or known number []

-- the kinds of the inner cells of lines, in the order in which they are reached: a call has those
-- of its callable
abbrev pub inner_of_steps : List (List Kind) → List Step → List Kind
inner_of_steps known [] = []
inner_of_steps known (NewCell kind ∷ steps) = kind ∷ inner_of_steps known steps
inner_of_steps known (CallOn callable places ∷ steps) = inner_of_callable known callable
    ++ inner_of_steps known steps

-- the kinds of the inner cells of compounds, each from the compounds before it: first the known
-- ones, and then these
abbrev pub inner_after : List (List Kind) → List Compound → List (List Kind)
inner_after known [] = known
inner_after known (compound ∷ compounds) = inner_after (known
    ++ inner_of_steps known compound.steps ∷ []) compounds

-- the kinds of the inner cells that a callable makes
abbrev pub inner_kinds_of : List Compound → Callable → List Kind
inner_kinds_of compounds callable = inner_of_callable (inner_after [] compounds) callable

-- ---- expansion

-- the instances on these cells, given the inner cells by number, from 0, in the order in which they
-- are made
abbrev pub Expands : Type 0 → Type 0
Expands C = List C → (ℕ → C) → List (Instance C)

-- the cells at these places
abbrev pub cells_at : {C : Type 0} → List C → List ℕ → List C
cells_at cells places = filter_map (slice_get cells) places

-- the expansion of a callable, given the expansions of the known compounds
abbrev pub expand_callable : {C : Type 0} → List (Expands C) → Callable → Expands C
expand_callable known (callables.Stored number) cells inner = instance_on number cells
expand_callable known (callables.Compound number) cells inner =
    slice_index_or known number (λ cells inner. []) cells inner

-- the expansion of lines, given the cells of their compound so far: a line that makes a private
-- cell takes the next inner cell, and a call becomes the expansion of its callable on the cells at
-- its places, with the next inner cells
abbrev pub expand_steps : {C : Type 0} → List (List Kind) → List (Expands C) → List Step → Expands C
expand_steps kinds known [] cells inner = []
expand_steps kinds known (NewCell kind ∷ steps) cells inner =
    expand_steps kinds known steps (cells ++ inner 0 ∷ []) (λ j. inner (1 + j))
expand_steps kinds known (CallOn callable places ∷ steps) cells inner =
    expand_callable known callable (filter_map (slice_get cells) places) inner
    ++ expand_steps kinds known steps cells (λ j.
    inner (length (inner_of_callable kinds callable) + j))

-- the expansions of compounds, each from the expansions of the compounds before it: first the known
-- ones, and then these
abbrev pub expand_after : {C : Type 0} → List (List Kind) → List (Expands C) → List Compound →
    List (Expands C)
expand_after kinds known [] = known
expand_after kinds known (compound ∷ compounds) =
    expand_after
    (kinds ++ inner_of_steps kinds compound.steps ∷ [])
    (known ++ expand_steps kinds known compound.steps ∷ [])
    compounds

-- the expansion of a callable on cells: its instances, given its inner cells by number
abbrev pub expansion_of : {C : Type 0} → List Compound → Callable → Expands C
expansion_of compounds callable cells inner = expand_callable (expand_after [] [] compounds)
    callable cells inner

-- ---- expansion on places, which determines the expansion on any cells

-- the cell at a place: first these cells, and then the inner cells
abbrev pub at_place : {C : Type 0} → List C → (ℕ → C) → ℕ → C
at_place [] inner place = inner place
at_place (cell ∷ cells) inner zero = cell
at_place (cell ∷ cells) inner (suc place) = at_place cells inner place

-- an expansion on places: `count` cells from 0, and after them the inner cells
abbrev pub on_places : Expands ℕ → ℕ → List (Instance ℕ)
on_places expands count = expands (range_with_len 0 count) (λ j. count + j)

-- ---- the cells that instances mention

-- each cell that the instance reads or writes is one of these
abbrev pub SpeaksOf : {C : Type 0} → (C → Type 0) → Instance C → Type 0
SpeaksOf IsHere instance = All IsHere instance.inputs × IsHere instance.output

-- the instance's procedure accepts the kinds of its cells, the output last
abbrev pub FitsCells : {C : Type 0} → List Procedure → (C → Kind) → Instance C → Type 0
FitsCells procedures kind instance =
    AcceptsKinds procedures [] (callables.Stored instance.procedure) (map kind instance.inputs
    ++ kind instance.output ∷ [])

-- the inner cells are of these kinds, in order
abbrev pub IsOfInnerKinds : {C : Type 0} → (C → Kind) → (ℕ → C) → List Kind → Type 0
IsOfInnerKinds kind inner kinds = (j : ℕ) (k : Kind) → slice_get kinds j ≡ Some k → kind (inner j)
    ≡ k

-- the numbers of instances and of inner cells are these
pub record HasSize {C : Type 0} (size : Size) (instances : List (Instance C)) (inner : List Kind)
    : Type 0 where
  pub instances_are : length instances ≡ size.instances
  pub inner_are : length inner ≡ size.inner_cells
