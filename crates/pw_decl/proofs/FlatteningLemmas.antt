-- One line more of a compound that is flattened.
use Rattle.std.proofs.Common.{◌≡◌, ℕ, suc, ◌+◌, ◌<◌, ◌≤◌, List, [], ◌∷◌, ◌++◌, Some, length, map, take, drop, get_or, refl, sym, ap, subst, ◌∙◌, arith, append_assoc, append-nil, length-append}
use Rattle.std.specs.Prelude.{All, slice_get}
use Rattle.std.specs.List.{cons_option, range_with_len}
use Rattle.std.proofs.lemmas.List.{take_more, take-append-drop, map-append, map_push}
use Rattle.std.proofs.lemmas.List.FromFn.{length-range_with_len}
use Rattle.std.proofs.lemmas.Option.{slice_get_within, slice_get_read}
use Rattle.pw_info.specs.declared.kind.Kind.{Kind}
use Rattle.pw_procs.specs.Procedure.{Procedure}
use Rattle.pw_decl.specs.declared.flattening.Flattening.{Flattening}
use Rattle.pw_decl.specs.declared.step.Callable.{Callable}
use Rattle.pw_decl.specs.declared.step.Step.{Step as StepType}
use Rattle.pw_decl.specs.declared.step.Callable.TheVariants as callables
use Rattle.pw_decl.specs.Compound.{Compound, Step, NewCell, CallOn, AcceptsKinds, IsThere, AreSteps, new_kinds, kinds_at, size_of_steps, sizes_of}
use Rattle.pw_decl.specs.Declaration.{Declared}
use Rattle.pw_decl.specs.Expansion.{Instance, Expands, at_place, cells_at, inner_of_callable, inner_of_steps, inner_after, expand_callable, expand_steps, expand_after}
use Rattle.pw_decl.specs.inside.Held.{instances_of}
use Rattle.pw_decl.specs.inside.Held.{step_of, steps_of}
use Rattle.pw_decl.specs.inside.Flattening.{TakesSoMany, GainsCallable, IsFlatSoFar, IsNextStep, cells_after}
use Rattle.pw_decl.proofs.ExpansionLemmas.{inner_steps_push, inner_steps_counted, expand_steps_push, cells_after_push, length-cells_after}
use Rattle.pw_decl.proofs.ExpansionFits.{length-cells_at}
use Rattle.pw_decl.proofs.FlatLemmas.{at_place_within}

-- ---- cells at places

-- at the places of existing cells are these cells
pub places_placed : {C : Type 0} (cells : List C) (inner : ℕ → C) (places : List ℕ) → All (λ place. place < length cells) places →
    map (at_place cells inner) places ≡ cells_at cells places
places_placed cells inner [] there = refl
places_placed {C} cells inner (place ∷ places) there =
    let here : place < length cells = there 0 place (omega arith) in
    let found : slice_get cells place ≡ Some (at_place cells inner place) =
    slice_get_read cells (length cells) place (at_place cells inner place) refl here (at_place_within cells inner place (at_place cells inner place) here) in
    ap (λ (l : List C). at_place cells inner place ∷ l) (places_placed cells inner places (λ n d small. there (suc n) d (omega (arith, small))))
    ∙ sym (ap (λ o. cons_option o (cells_at cells places)) found)

-- a callable that accepts kinds is there
pub accepts_there : (procedures : List Procedure) (compounds : List Compound) (callable : Callable) (kinds : List Kind) →
    AcceptsKinds procedures compounds callable kinds → IsThere procedures compounds callable
accepts_there procedures compounds (callables.Stored number) kinds (procedure, at, accepts) = slice_get_within procedures number procedure at
accepts_there procedures compounds (callables.Compound number) kinds (compound, at, same) = slice_get_within compounds number compound at

-- ---- lines

-- a private cell
pub flat_local : {A : Type 0} (compounds : List Compound) (parameters : ℕ) (done : List Step) (kind : Kind) (old new : Flattening A) →
    new.places.items ≡ old.places.items ++ (parameters + length old.flattened.inner.items) ∷ [] →
    new.flattened.inner.items ≡ old.flattened.inner.items ++ kind ∷ [] → new.flattened.calls.items ≡ old.flattened.calls.items →
    IsFlatSoFar compounds parameters done old → IsFlatSoFar compounds parameters (done ++ NewCell kind ∷ []) new
flat_local compounds parameters done kind old new places inner calls so_far =
    let kinds = inner_after [] compounds in
    let known : List (Expands ℕ) = expand_after [] [] compounds in
    let start = range_with_len 0 parameters in
    let names : ℕ → ℕ = λ j. parameters + j in
    let next : parameters + length old.flattened.inner.items ≡ parameters + (length (inner_of_steps kinds done) + 0) =
    omega (arith, ap length so_far.inner) in
    record {
      calls = ap instances_of calls ∙ so_far.calls
          ∙ sym (expand_steps_push kinds known done (NewCell kind) start names ∙ append-nil (expand_steps kinds known done start names));
      inner = inner ∙ ap (λ (l : List Kind). l ++ kind ∷ []) so_far.inner ∙ sym (inner_steps_push kinds done (NewCell kind));
      places = places ∙ ap (λ (l : List ℕ). l ++ (parameters + length old.flattened.inner.items) ∷ []) so_far.places
          ∙ ap (λ (n : ℕ). cells_after kinds done start names ++ n ∷ []) next
          ∙ sym (cells_after_push kinds done (NewCell kind) start names);
    }

-- a call
pub flat_call : {A : Type 0} (compounds : List Compound) (parameters : ℕ) (done : List Step) (callable : Callable) (places cells : List ℕ) (first : ℕ)
    (old new : Flattening A) → cells ≡ cells_at old.places.items places → first ≡ parameters + length old.flattened.inner.items →
    GainsCallable compounds callable cells first old.flattened new.flattened → new.places.items ≡ old.places.items →
    IsFlatSoFar compounds parameters done old → IsFlatSoFar compounds parameters (done ++ CallOn callable places ∷ []) new
flat_call compounds parameters done callable places cells first old new placed from gains same so_far =
    let kinds = inner_after [] compounds in
    let known : List (Expands ℕ) = expand_after [] [] compounds in
    let start = range_with_len 0 parameters in
    let names : ℕ → ℕ = λ j. parameters + j in
    let passed = length (inner_of_steps kinds done) in
    let shifted : (j : ℕ) → first + j ≡ parameters + (passed + j) = λ j. omega (arith, from, ap length so_far.inner) in
    let cells_are : cells ≡ cells_at (cells_after kinds done start names) places = placed ∙ ap (λ (l : List ℕ). cells_at l places) so_far.places in
    let became : expand_callable known callable cells (λ j. first + j)
    ≡ expand_callable known callable (cells_at (cells_after kinds done start names) places) (λ j. parameters + (passed + j)) =
    λ k. expand_callable known callable (cells_are k) (λ j. shifted j k) in
    record {
      calls = gains.calls ∙ ap (λ (l : List (Instance ℕ)). l ++ expand_callable known callable cells (λ j. first + j)) so_far.calls
          ∙ ap (λ (l : List (Instance ℕ)). expand_steps kinds known done start names ++ l) (became ∙ sym (append-nil _))
          ∙ sym (expand_steps_push kinds known done (CallOn callable places) start names);
      inner = gains.inner ∙ ap (λ (l : List Kind). l ++ inner_of_callable kinds callable) so_far.inner
          ∙ ap (λ (l : List Kind). inner_of_steps kinds done ++ l) (sym (append-nil (inner_of_callable kinds callable)))
          ∙ sym (inner_steps_push kinds done (CallOn callable places));
      places = same ∙ so_far.places ∙ sym (cells_after_push kinds done (CallOn callable places) start names);
    }

-- a line that may be next, and is a call: its callable takes as many cells as the call has places
pub next_takes : {A : Type 0} (d : Declared) (so_far : Flattening A) (callable : Callable) (places : List ℕ) →
    IsNextStep d so_far (CallOn callable places) → TakesSoMany d callable (length (cells_at so_far.places.items places))
next_takes d so_far callable places next =
    let (there, accepts, rest) = next.names in
    (kinds_at next.kinds places, sym (length-cells_at so_far.places.items next.kinds places (sym next.many)), accepts)

-- its cells are there
pub next_places : {A : Type 0} (d : Declared) (so_far : Flattening A) (callable : Callable) (places : List ℕ) →
    IsNextStep d so_far (CallOn callable places) → All (λ place. place < length so_far.places.items) places
next_places d so_far callable places next =
    let (there, accepts, rest) = next.names in
    subst (λ (n : ℕ). All (λ place. place < n) places) next.many there

-- and so is its callable
pub next_there : {A : Type 0} (d : Declared) (so_far : Flattening A) (callable : Callable) (places : List ℕ) →
    IsNextStep d so_far (CallOn callable places) → IsThere d.procedures d.compounds callable
next_there d so_far callable places next =
    let (there, accepts, rest) = next.names in
    accepts_there d.procedures d.compounds callable (kinds_at next.kinds places) accepts

-- the cells that were read there are those at the places
pub placed_there : {C : Type 0} (read cells : List C) (inner : ℕ → C) (places : List ℕ) (placed : List C) → read ≡ cells →
    placed ≡ map (at_place read inner) places → All (λ place. place < length cells) places → placed ≡ cells_at cells places
placed_there {C} read cells inner places placed same is there =
    is ∙ ap (λ (l : List C). map (at_place l inner) places) same ∙ places_placed cells inner places there

-- ---- the next line of those of a compound

-- what is at a place is between what is before it and what is behind
pub split_at : {X : Type 0} (xs : List X) (n : ℕ) (x : X) → n < length xs → x ≡ get_or xs n x → xs ≡ take n xs ++ x ∷ drop (n + 1) xs
split_at {X} xs n x here read =
    sym (take-append-drop (n + 1) xs)
    ∙ ap (λ (l : List X). l ++ drop (n + 1) xs) (take_more xs n x here ∙ ap (λ (y : X). take n xs ++ y ∷ []) (sym read))
    ∙ append_assoc (take n xs) (x ∷ []) (drop (n + 1) xs)

inner_steps_append : (known : List (List Kind)) (steps more : List Step) →
    inner_of_steps known (steps ++ more) ≡ inner_of_steps known steps ++ inner_of_steps known more
inner_steps_append known [] more = refl
inner_steps_append known (NewCell kind ∷ steps) more = ap (λ (l : List Kind). kind ∷ l) (inner_steps_append known steps more)
inner_steps_append known (CallOn callable places ∷ steps) more =
    ap (λ (l : List Kind). inner_of_callable known callable ++ l) (inner_steps_append known steps more)
    ∙ sym (append_assoc (inner_of_callable known callable) (inner_of_steps known steps) (inner_of_steps known more))

-- each private cell of lines is an inner cell
new_kinds_few : (known : List (List Kind)) (steps : List Step) → length (new_kinds steps) ≤ length (inner_of_steps known steps)
new_kinds_few known [] = omega arith
new_kinds_few known (NewCell kind ∷ steps) = omega (arith, new_kinds_few known steps)
new_kinds_few known (CallOn callable places ∷ steps) =
    omega (arith, new_kinds_few known steps, length-append (inner_of_callable known callable) (inner_of_steps known steps))

-- the lines after some, and the first of lines, name only earlier things
steps_after : (procedures : List Procedure) (compounds : List Compound) (kinds : List Kind) (done rest : List Step) →
    AreSteps procedures compounds kinds (done ++ rest) → AreSteps procedures compounds (kinds ++ new_kinds done) rest
steps_after procedures compounds kinds [] rest are = subst (λ (l : List Kind). AreSteps procedures compounds l rest) (sym (append-nil kinds)) are
steps_after procedures compounds kinds (NewCell kind ∷ done) rest are =
    subst (λ (l : List Kind). AreSteps procedures compounds l rest) (append_assoc kinds (kind ∷ []) (new_kinds done))
    (steps_after procedures compounds (kinds ++ kind ∷ []) done rest are)
steps_after procedures compounds kinds (CallOn callable places ∷ done) rest (there, accepts, are) =
    steps_after procedures compounds kinds done rest are

first_step : (procedures : List Procedure) (compounds : List Compound) (kinds : List Kind) (step : Step) (rest : List Step) →
    AreSteps procedures compounds kinds (step ∷ rest) → AreSteps procedures compounds kinds (step ∷ [])
first_step procedures compounds kinds (NewCell kind) rest are = tt
first_step procedures compounds kinds (CallOn callable places) rest (there, accepts, are) = (there, accepts, tt)

-- if the lines before it are flattened, the next line of a compound may be next
pub is_next : {A : Type 0} (d : Declared) (parameters : List Kind) (done rest : List Step) (step : Step) (so_far : Flattening A) →
    AreSteps d.procedures d.compounds parameters (done ++ step ∷ rest) → length parameters ≤ 8 →
    (size_of_steps (sizes_of d.compounds) (done ++ step ∷ rest)).inner_cells ≤ 256 →
    IsFlatSoFar d.compounds (length parameters) done so_far → IsNextStep d so_far step
is_next d parameters done rest step so_far are few small flat =
    let known = inner_after [] d.compounds in
    let counted = inner_steps_counted d.compounds (done ++ step ∷ rest) in
    let parts = ap length (inner_steps_append known done (step ∷ rest) ∙ ap (λ (l : List Kind). inner_of_steps known done ++ l) (inner_steps_append known (step ∷ []) rest)) in
    let sums = length-append (inner_of_steps known done) (inner_of_steps known (step ∷ []) ++ inner_of_steps known rest) in
    let more = length-append (inner_of_steps known (step ∷ [])) (inner_of_steps known rest) in
    let passed = length-cells_after known done (range_with_len 0 (length parameters)) (λ j. length parameters + j) in
    let start = length-range_with_len 0 (length parameters) in
    let cells : length so_far.places.items ≡ length parameters + length (new_kinds done) = omega (arith, ap length flat.places, passed, start) in
    let all = length-append parameters (new_kinds done) in
    record {
      kinds = parameters ++ new_kinds done;
      many = omega (arith, cells, all);
      few = omega (arith, cells, few, new_kinds_few known done, counted, parts, sums, small);
      names = first_step d.procedures d.compounds (parameters ++ new_kinds done) step rest
          (steps_after d.procedures d.compounds parameters done (step ∷ rest) are);
      room = omega (arith, ap length flat.inner, counted, parts, sums, more, small);
    }

-- ---- lines as they are kept

-- the lines up to this one, and this one
pub next_done : (items : List StepType) (n : ℕ) (item : StepType) → n < length items → item ≡ get_or items n item →
    steps_of (take (n + 1) items) ≡ steps_of (take n items) ++ step_of item ∷ []
next_done items n item here read =
    ap steps_of (take_more items n item here ∙ ap (λ (x : StepType). take n items ++ x ∷ []) (sym read)) ∙ map_push step_of (take n items) item

-- the next of them may be next
pub next_kept : {A : Type 0} (d : Declared) (parameters : List Kind) (items : List StepType) (n count : ℕ) (item : StepType) (so_far : Flattening A) →
    AreSteps d.procedures d.compounds parameters (steps_of items) → length parameters ≤ 8 →
    (size_of_steps (sizes_of d.compounds) (steps_of items)).inner_cells ≤ 256 → n < length items → item ≡ get_or items n item →
    count ≡ length parameters → IsFlatSoFar d.compounds count (steps_of (take n items)) so_far → IsNextStep d so_far (step_of item)
next_kept d parameters items n count item so_far are few small here read many flat =
    let parts : steps_of items ≡ steps_of (take n items) ++ step_of item ∷ steps_of (drop (n + 1) items) =
    ap steps_of (split_at items n item here read) ∙ map-append step_of (take n items) (item ∷ drop (n + 1) items) in
    is_next d parameters (steps_of (take n items)) (steps_of (drop (n + 1) items)) (step_of item) so_far
    (subst (AreSteps d.procedures d.compounds parameters) parts are) few
    (subst (λ (steps : List Step). (size_of_steps (sizes_of d.compounds) steps).inner_cells ≤ 256) parts small)
    (subst (λ (k : ℕ). IsFlatSoFar d.compounds k (steps_of (take n items)) so_far) many flat)
