-- Instances as sources: under other names; they are only propagators; they fit; and what they name.
use Rattle.std.proofs.Common.{◌≡◌, List, [], ◌∷◌, ◌++◌, Option, Some, None, filter, map, refl, sym, ap, subst, ◌∙◌, All}
use Rattle.std.proofs.Math.Logic.{∥∥₁_map}
use Rattle.std.specs.Prelude.{slice_get}
use Rattle.std.specs.List.{cons_option}
use Rattle.std.specs.Option.{option_map}
use Rattle.std.proofs.lemmas.List.Elements.{All-cons, All-head, All-nil, All-tail}
use Rattle.std.proofs.lemmas.Option.{same_Some}
use Rattle.pw_info.specs.declared.kind.Kind.{Kind}
use Rattle.pw_procs.specs.Procedure.{Procedure}
use Rattle.pw_procs.specs.Signature.{Accepts}
use Rattle.pw_decl.specs.Expansion.{FitsCells, Instance, SpeaksOf, renamed}
use Rattle.pw_settle.specs.Sources.{Cells, Fits, Names, Propagator, Source, Told, cell_of, is_propagator, source_renamed}
use Rattle.pw_settle.specs.Values.{propagator_of, propagators_of}

-- ---- as sources

-- sources with an instance before them, if a procedure is found for it
abbrev with_instance : {C : Type 0} → Instance C → Option Procedure → List (Source C) → List (Source C)
with_instance instance found rest =
    cons_option (option_map (λ procedure. Propagator procedure instance.inputs instance.output) found) rest

-- under other names, what an instance is as a source, if it is one, is what it is under these names
propagator_renamed : {C D : Type 0} (name : C → D) (instance : Instance C) (rest : List (Source C)) (found : Option Procedure) →
    map (source_renamed name) (with_instance instance found rest) ≡
    with_instance (renamed name instance) found (map (source_renamed name) rest)
propagator_renamed name instance rest None = refl
propagator_renamed name instance rest (Some procedure) = refl

-- so are the propagators of instances
pub propagators_renamed : {C D : Type 0} (name : C → D) (procedures : List Procedure) (instances : List (Instance C)) →
    map (source_renamed name) (propagators_of procedures instances) ≡ propagators_of procedures (map (renamed name) instances)
propagators_renamed name procedures [] = refl
propagators_renamed {C} {D} name procedures (instance ∷ instances) =
    propagator_renamed name instance (propagators_of procedures instances) (slice_get procedures instance.procedure)
    ∙ ap (cons_option (propagator_of procedures (renamed name instance))) (propagators_renamed name procedures instances)

-- what an instance is as a source is a propagator
propagator_only : {C : Type 0} (instance : Instance C) (rest : List (Source C)) (found : Option Procedure) →
    filter is_propagator rest ≡ rest →
    filter is_propagator (with_instance instance found rest) ≡ with_instance instance found rest
propagator_only instance rest None only = only
propagator_only instance rest (Some procedure) only = ap (λ l. Propagator procedure instance.inputs instance.output ∷ l) only

-- so instances are only propagators
pub propagators_only : {C : Type 0} (procedures : List Procedure) (instances : List (Instance C)) →
    filter is_propagator (propagators_of procedures instances) ≡ propagators_of procedures instances
propagators_only procedures [] = refl
propagators_only procedures (instance ∷ instances) =
    propagator_only instance (propagators_of procedures instances) (slice_get procedures instance.procedure)
    (propagators_only procedures instances)

-- ---- sources fit where instances do, and name what these mention

-- the kinds of the cells of an instance, the output last
abbrev kinds_of_cells : {C : Type 0} → (C → Kind) → Instance C → List Kind
kinds_of_cells kind instance = map kind instance.inputs ++ kind instance.output ∷ []

-- if an instance fits the kinds of its cells, so does what it is as a source
propagator_fits : {C : Type 0} (cells : Cells C) (procedures : List Procedure) (instance : Instance C) (rest : List (Source C))
    (found : Option Procedure) → slice_get procedures instance.procedure ≡ found → ∥ FitsCells procedures cells.kind instance ∥₁ →
    All (Fits cells) rest →
    All (Fits cells) (with_instance instance found rest)
propagator_fits cells procedures instance rest None is fits all = all
propagator_fits cells procedures instance rest (Some procedure) is fits all =
    All-cons (Fits cells) (Propagator procedure instance.inputs instance.output) rest
    (∥∥₁_map fits (λ f. subst (λ (p : Procedure). Accepts p.signature (kinds_of_cells cells.kind instance))
    (same_Some f.0 procedure (sym f.1 ∙ is)) f.2)) all

-- so do the propagators of instances that fit
pub propagators_fit : {C : Type 0} (cells : Cells C) (procedures : List Procedure) (instances : List (Instance C)) →
    All (λ instance. ∥ FitsCells procedures cells.kind instance ∥₁) instances → All (Fits cells) (propagators_of procedures instances)
propagators_fit cells procedures [] fit = All-nil (Fits cells)
propagators_fit cells procedures (instance ∷ instances) fit =
    propagator_fits cells procedures instance (propagators_of procedures instances) (slice_get procedures instance.procedure) refl
    (All-head (λ i. ∥ FitsCells procedures cells.kind i ∥₁) instance instances fit)
    (propagators_fit cells procedures instances (All-tail (λ i. ∥ FitsCells procedures cells.kind i ∥₁) instance instances fit))

-- what an instance is as a source names what it mentions
propagator_names : {C : Type 0} (IsHere : C → Type 0) (instance : Instance C) (rest : List (Source C)) (found : Option Procedure) →
    SpeaksOf IsHere instance → All (Names IsHere) rest →
    All (Names IsHere) (with_instance instance found rest)
propagator_names IsHere instance rest None speaks all = all
propagator_names IsHere instance rest (Some procedure) speaks all =
    All-cons (Names IsHere) (Propagator procedure instance.inputs instance.output) rest speaks all

-- so do the propagators of instances
pub propagators_name : {C : Type 0} (IsHere : C → Type 0) (procedures : List Procedure) (instances : List (Instance C)) →
    All (SpeaksOf IsHere) instances → All (Names IsHere) (propagators_of procedures instances)
propagators_name IsHere procedures [] speak = All-nil (Names IsHere)
propagators_name IsHere procedures (instance ∷ instances) speak =
    propagator_names IsHere instance (propagators_of procedures instances) (slice_get procedures instance.procedure)
    (All-head (SpeaksOf IsHere) instance instances speak)
    (propagators_name IsHere procedures instances (All-tail (SpeaksOf IsHere) instance instances speak))

-- what an instance is as a source informs its output
propagator_output : {C : Type 0} (P : C → Type 0) (instance : Instance C) (rest : List (Source C)) (found : Option Procedure) →
    P instance.output → All (λ source. P (cell_of source)) rest →
    All (λ source. P (cell_of source)) (with_instance instance found rest)
propagator_output P instance rest None holds all = all
propagator_output P instance rest (Some procedure) holds all =
    All-cons (λ source. P (cell_of source)) (Propagator procedure instance.inputs instance.output) rest holds all

-- so the propagators of instances inform their outputs
pub propagator_outputs : {C : Type 0} (P : C → Type 0) (procedures : List Procedure) (instances : List (Instance C)) →
    All (λ instance. P instance.output) instances → All (λ source. P (cell_of source)) (propagators_of procedures instances)
propagator_outputs P procedures [] hold = All-nil (λ source. P (cell_of source))
propagator_outputs P procedures (instance ∷ instances) hold =
    propagator_output P instance (propagators_of procedures instances) (slice_get procedures instance.procedure)
    (All-head (λ i. P i.output) instance instances hold)
    (propagator_outputs P procedures instances (All-tail (λ i. P i.output) instance instances hold))

-- the cell that a source informs is one that it names
pub names_cell : {C : Type 0} (IsHere : C → Type 0) (source : Source C) → Names IsHere source → IsHere (cell_of source)
names_cell IsHere (Told cell info) here = here
names_cell IsHere (Propagator procedure inputs output) here = here.1
