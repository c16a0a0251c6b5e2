-- What compounds keep as lines are added to them, and as compounds are added to compounds.
use Rattle.std.proofs.Common.{◌≡◌, ℕ, ◌+◌, ◌<◌, ◌≤◌, List, [], ◌∷◌, ◌++◌, Option, inl, inr, Some, None, length, refl, sym, ap, subst, ◌∙◌, arith, append_assoc, append-nil, length-append}
use Rattle.std.specs.Prelude.{All}
use Rattle.std.specs.List.{filter_map, cons_option}
use Rattle.std.proofs.lemmas.List.Elements.{All-cons, All-nil}
use Rattle.pw_info.specs.declared.kind.Kind.{Kind}
use Rattle.pw_procs.specs.Registering.{place_of_name}
use Rattle.pw_procs.specs.Procedure.{Procedure}
use Rattle.pw_decl.specs.declared.step.Callable.{Callable}
use Rattle.pw_decl.specs.Compound.{Step, NewCell, CallOn, Compound, new_kinds, cell_kinds, AcceptsKinds, kinds_at, AreSteps, AreCompoundsAfter, Size, no_size, sum_of_sizes, size_of_local, size_of_callable, size_of_step, size_of_steps, sizes_after, sizes_of}
use Rattle.pw_decl.specs.Declaration.{Declared, OpenCompound, begun, with_local, with_call, places_of, callable_named}
use Rattle.pw_decl.specs.Faults.{OutgrowsWith}
use Rattle.pw_decl.specs.Limits.{most_compounds, most_parameters}
use Rattle.pw_decl.specs.Prelude.{prelude_compounds}
use Rattle.pw_decl.specs.WellDeclared.{IsSmall, IsWellOpen}
use Rattle.pw_decl.proofs.Places.{place_of_name-lt}

-- ---- lines

-- the private cells of one more line
pub new_kinds_push : (steps : List Step) (step : Step) → new_kinds (steps ++ step ∷ []) ≡ new_kinds steps ++ new_kinds (step ∷ [])
new_kinds_push [] step = refl
new_kinds_push (NewCell kind ∷ steps) step = ap (λ (l : List Kind). kind ∷ l) (new_kinds_push steps step)
new_kinds_push (CallOn callable places ∷ steps) step = new_kinds_push steps step

-- with one more line that names only earlier things, the lines do
pub steps_push : (procedures : List Procedure) (compounds : List Compound) (kinds : List Kind) (steps : List Step) (step : Step) →
    AreSteps procedures compounds kinds steps → AreSteps procedures compounds (kinds ++ new_kinds steps) (step ∷ []) →
    AreSteps procedures compounds kinds (steps ++ step ∷ [])
steps_push procedures compounds kinds [] step are is =
    subst (λ (l : List Kind). AreSteps procedures compounds l (step ∷ [])) (append-nil kinds) is
steps_push procedures compounds kinds (NewCell kind ∷ steps) step are is =
    steps_push procedures compounds (kinds ++ kind ∷ []) steps step are
    (subst (λ (l : List Kind). AreSteps procedures compounds l (step ∷ [])) (sym (append_assoc kinds (kind ∷ []) (new_kinds steps))) is)
steps_push procedures compounds kinds (CallOn callable places ∷ steps) step (there, accepts, are) is =
    (there, accepts, steps_push procedures compounds kinds steps step are is)

-- with one more compound that names only earlier things, the compounds do
pub compounds_push : (procedures : List Procedure) (known compounds : List Compound) (compound : Compound) →
    AreCompoundsAfter procedures known compounds → AreSteps procedures (known ++ compounds) compound.parameters compound.steps →
    AreCompoundsAfter procedures known (compounds ++ compound ∷ [])
compounds_push procedures known [] compound are is =
    (subst (λ (l : List Compound). AreSteps procedures l compound.parameters compound.steps) (append-nil known) is, tt)
compounds_push procedures known (first ∷ compounds) compound (steps, are) is = (
  steps,
  compounds_push procedures (known ++ first ∷ []) compounds compound are
      (subst (λ (l : List Compound). AreSteps procedures l compound.parameters compound.steps) (sym (append_assoc known (first ∷ []) compounds)) is),
)

-- ---- sizes

pub same_size : (a b : Size) → a.instances ≡ b.instances → a.inner_cells ≡ b.inner_cells → a ≡ b
same_size a b p q = λ k. record { instances = p k; inner_cells = q k }

pub sum_with_none : (a : Size) → sum_of_sizes a no_size ≡ a
sum_with_none a = same_size (sum_of_sizes a no_size) a (omega arith) (omega arith)

pub none_with_sum : (a : Size) → sum_of_sizes no_size a ≡ a
none_with_sum a = same_size (sum_of_sizes no_size a) a (omega arith) (omega arith)

pub sum_assoc : (a b c : Size) → sum_of_sizes (sum_of_sizes a b) c ≡ sum_of_sizes a (sum_of_sizes b c)
sum_assoc a b c = same_size (sum_of_sizes (sum_of_sizes a b) c) (sum_of_sizes a (sum_of_sizes b c)) (omega arith) (omega arith)

-- lines with one more line are larger by its size
pub size_push : (sizes : List Size) (steps : List Step) (step : Step) →
    size_of_steps sizes (steps ++ step ∷ []) ≡ sum_of_sizes (size_of_steps sizes steps) (size_of_step sizes step)
size_push sizes [] step = sum_with_none (size_of_step sizes step) ∙ sym (none_with_sum (size_of_step sizes step))
size_push sizes (first ∷ steps) step =
    ap (sum_of_sizes (size_of_step sizes first)) (size_push sizes steps step)
    ∙ sym (sum_assoc (size_of_step sizes first) (size_of_steps sizes steps) (size_of_step sizes step))

-- compounds with one more compound have its size after theirs
pub sizes_push : (sizes : List Size) (compounds : List Compound) (compound : Compound) →
    sizes_after sizes (compounds ++ compound ∷ []) ≡ sizes_after sizes compounds ++ size_of_steps (sizes_after sizes compounds) compound.steps ∷ []
sizes_push sizes [] compound = refl
sizes_push sizes (first ∷ compounds) compound = sizes_push (sizes ++ size_of_steps sizes first.steps ∷ []) compounds compound

-- there are as many sizes as compounds
pub length-sizes_after : (sizes : List Size) (compounds : List Compound) → length (sizes_after sizes compounds) ≡ length sizes + length compounds
length-sizes_after sizes [] = omega arith
length-sizes_after sizes (first ∷ compounds) =
    omega (arith, length-sizes_after (sizes ++ size_of_steps sizes first.steps ∷ []) compounds, length-append sizes (size_of_steps sizes first.steps ∷ []))

pub length-sizes_of : (compounds : List Compound) → length (sizes_of compounds) ≡ length compounds
length-sizes_of compounds = omega (arith, length-sizes_after [] compounds)

-- ---- places

below_with : (bound : ℕ) (o : Option ℕ) (places : List ℕ) → ((k : ℕ) → o ≡ Some k → k < bound) → All (λ place. place < bound) places →
    All (λ place. place < bound) (cons_option o places)
below_with bound None places at below = below
below_with bound (Some k) places at below = All-cons (λ place. place < bound) k places (at k refl) below

-- each place of a name that is found is below the number of names
pub places_below : (names words : List (List ℕ)) → All (λ place. place < length names) (filter_map (place_of_name names) words)
places_below names [] = All-nil (λ place. place < length names)
places_below names (word ∷ words) =
    below_with (length names) (place_of_name names word) (filter_map (place_of_name names) words) (place_of_name-lt names word) (places_below names words)

-- ---- open compounds

at_most_unless : {m n : ℕ} → (n < m → ⊥) → m ≤ n
at_most_unless {m} {n} few = omega arith

-- a compound that has begun with a free name, if there is room
pub well_begun : (d : Declared) (name : List ℕ) (names : List (List ℕ)) (kinds : List Kind) → length d.compounds < prelude_compounds + most_compounds →
    callable_named d name ≡ None → length names ≡ length kinds → length kinds ≤ most_parameters → IsWellOpen d (begun name names kinds)
well_begun d name names kinds room fresh named few =
    record {
      room = room;
      fresh = fresh;
      names = named ∙ ap length (sym (append-nil kinds));
      parameters = few;
      steps = tt;
      small = record { instances = omega arith; inner_cells = omega arith };
    }

-- with a line that does not make it too large
small_push : (d : Declared) (opened : OpenCompound) (step : Step) → (OutgrowsWith d opened (size_of_step (sizes_of d.compounds) step) → ⊥) →
    IsSmall (size_of_steps (sizes_of d.compounds) (opened.compound.steps ++ step ∷ []))
small_push d opened step fits =
    let size = sum_of_sizes (size_of_steps (sizes_of d.compounds) opened.compound.steps) (size_of_step (sizes_of d.compounds) step) in
    let small : IsSmall size = record { instances = at_most_unless (λ more. fits (inl more)); inner_cells = at_most_unless (λ more. fits (inr more)) } in
    subst IsSmall (sym (size_push (sizes_of d.compounds) opened.compound.steps step)) small

-- one more private cell
pub well_with_local : (d : Declared) (opened : OpenCompound) (name : List ℕ) (kind : Kind) → IsWellOpen d opened →
    (OutgrowsWith d opened size_of_local → ⊥) → IsWellOpen d (with_local opened name kind)
well_with_local d opened name kind well fits =
    let parameters = opened.compound.parameters in
    let steps = opened.compound.steps in
    let kinds : new_kinds (steps ++ NewCell kind ∷ []) ≡ new_kinds steps ++ kind ∷ [] = new_kinds_push steps (NewCell kind) in
    let all : parameters ++ new_kinds (steps ++ NewCell kind ∷ []) ≡ (parameters ++ new_kinds steps) ++ kind ∷ [] =
    ap (λ (l : List Kind). parameters ++ l) kinds ∙ sym (append_assoc parameters (new_kinds steps) (kind ∷ [])) in
    let before : length opened.names ≡ length (parameters ++ new_kinds steps) = well.names in
    let more : length (parameters ++ new_kinds (steps ++ NewCell kind ∷ [])) ≡ length (parameters ++ new_kinds steps) + 1 =
    ap length all ∙ length-append (parameters ++ new_kinds steps) (kind ∷ []) in
    let longer : length (opened.names ++ name ∷ []) ≡ length opened.names + 1 = length-append opened.names (name ∷ []) in
    record {
      room = well.room;
      fresh = well.fresh;
      names = omega arith;
      parameters = well.parameters;
      steps = steps_push d.procedures d.compounds parameters steps (NewCell kind) well.steps tt;
      small = small_push d opened (NewCell kind) fits;
    }

-- one more call, of cells that the callable accepts
pub well_with_call : (d : Declared) (opened : OpenCompound) (callable : Callable) (places : List ℕ) → IsWellOpen d opened →
    All (λ place. place < length (cell_kinds opened.compound)) places →
    AcceptsKinds d.procedures d.compounds callable (kinds_at (cell_kinds opened.compound) places) →
    (OutgrowsWith d opened (size_of_callable (sizes_of d.compounds) callable) → ⊥) → IsWellOpen d (with_call opened callable places)
well_with_call d opened callable places well there accepts fits =
    let parameters = opened.compound.parameters in
    let steps = opened.compound.steps in
    let kinds : new_kinds (steps ++ CallOn callable places ∷ []) ≡ new_kinds steps ++ [] = new_kinds_push steps (CallOn callable places) in
    record {
      room = well.room;
      fresh = well.fresh;
      names = well.names ∙ ap (λ (l : List Kind). length (parameters ++ l)) (sym (kinds ∙ append-nil (new_kinds steps)));
      parameters = well.parameters;
      steps = steps_push d.procedures d.compounds parameters steps (CallOn callable places) well.steps (there, accepts, tt);
      small = small_push d opened (CallOn callable places) fits;
    }

-- the places of words are below the number of the open compound's cells
pub places_there : (d : Declared) (opened : OpenCompound) (words : List (List ℕ)) → IsWellOpen d opened →
    All (λ place. place < length (cell_kinds opened.compound)) (places_of opened words)
places_there d opened words well =
    subst (λ (n : ℕ). All (λ place. place < n) (places_of opened words)) well.names (places_below opened.names words)
