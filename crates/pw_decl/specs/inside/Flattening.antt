-- Flattening an open compound, line by line, as the code does it.
use Rattle.std.specs.Prelude.{◌≡◌, ℕ, ◌+◌, ◌≤◌, List, [], ◌∷◌, ◌++◌, length}
use Rattle.std.specs.List.{range_with_len}
use Rattle.pw_info.specs.declared.kind.Kind.{Kind}
use Rattle.pw_decl.specs.declared.flat_call.Flattened.{Flattened}
use Rattle.pw_decl.specs.declared.flattening.Flattening.{Flattening}
use Rattle.pw_decl.specs.declared.step.Callable.{Callable}
use Rattle.pw_decl.specs.Compound.{Compound, Step, NewCell, CallOn, AreSteps}
use Rattle.pw_decl.specs.Declaration.{Declared, Takes}
use Rattle.pw_decl.specs.Expansion.{inner_of_callable, inner_of_steps, inner_after, expand_callable}
use Rattle.pw_decl.specs.Expansion.{expand_steps, expand_after, on_places}
use Rattle.pw_decl.specs.inside.Held.{instances_of}
use Rattle.pw_decl.specs.Limits.{most_parameters, most_inner_cells}

-- the callable takes this many cells, of some kinds
abbrev pub TakesSoMany : Declared → Callable → ℕ → Type 0
TakesSoMany d callable count = (kinds : List Kind) × (length kinds ≡ count) × Takes d callable kinds

-- the stored calls and kinds have gained the expansion of a callable on these cells. Its inner
-- cells are those from this one on
pub record GainsCallable {A : Type 0} (compounds : List Compound) (callable : Callable)
    (cells : List ℕ) (first : ℕ) (old new : Flattened A) : Type 0 where
  pub calls : instances_of new.calls.items
      ≡ instances_of old.calls.items ++ expand_callable (expand_after [] [] compounds) callable
      cells (λ j. first + j)
  pub inner : new.inner.items ≡ old.inner.items
      ++ inner_of_callable (inner_after [] compounds) callable

-- the cells of a compound after lines, given its cells and the next inner cells before them
abbrev pub cells_after : {C : Type 0} → List (List Kind) → List Step → List C → (ℕ → C) → List C
cells_after kinds [] cells inner = cells
cells_after kinds (NewCell kind ∷ steps) cells inner =
    cells_after kinds steps (cells ++ inner 0 ∷ []) (λ j. inner (1 + j))
cells_after kinds (CallOn callable places ∷ steps) cells inner =
    cells_after kinds steps cells (λ j. inner (length (inner_of_callable kinds callable) + j))

-- these lines of a compound with this many parameters are flattened
pub record IsFlatSoFar {A : Type 0} (compounds : List Compound) (parameters : ℕ) (done : List Step)
    (so_far : Flattening A) : Type 0 where
  pub calls : instances_of so_far.flattened.calls.items
      ≡ on_places (expand_steps (inner_after [] compounds) (expand_after [] [] compounds) done)
      parameters
  pub inner : so_far.flattened.inner.items ≡ inner_of_steps (inner_after [] compounds) done
  pub places : so_far.places.items ≡ cells_after (inner_after [] compounds) done
      (range_with_len 0 parameters) (λ j. parameters + j)

-- the line may be next: it names only earlier things, there are few cells so far, and there is room
-- for its inner cells
pub record IsNextStep {A : Type 0} (d : Declared) (so_far : Flattening A) (step : Step)
    : Type 0 where
  pub kinds : List Kind
  pub many : length kinds ≡ length so_far.places.items
  pub few : length so_far.places.items ≤ most_parameters + most_inner_cells
  pub names : AreSteps d.procedures d.compounds kinds (step ∷ [])
  pub room : length so_far.flattened.inner.items + length
      (inner_of_steps (inner_after [] d.compounds) (step ∷ [])) ≤ most_inner_cells

-- where the lines so far were flattened, they are with this one
abbrev pub FlattensStep : {A : Type 0} → List Compound → ℕ → Step → Flattening A → Flattening A →
    Type 0
FlattensStep compounds parameters step old new =
    (done : List Step) → IsFlatSoFar compounds parameters done old →
    IsFlatSoFar compounds parameters (done ++ step ∷ []) new
