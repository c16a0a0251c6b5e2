-- What is kept of compounds that have ended: with one more compound, by number, and that each stays
-- on its own places.
use Rattle.std.proofs.Common.{◌≡◌, ℕ, zero, suc, ◌+◌, ◌<◌, ◌≤◌, List, [], ◌∷◌, ◌++◌, Some, length, refl, sym, ap, subst, ◌∙◌, arith}
use Rattle.std.specs.Prelude.{All, slice_get, slice_index_or}
use Rattle.std.specs.List.{range_with_len}
use Rattle.std.proofs.lemmas.List.Elements.{All-cons, All-head, All-nil, All-tail}
use Rattle.std.proofs.lemmas.List.FromFn.{length-range_with_len, get_or-range_with_len}
use Rattle.std.proofs.lemmas.Option.{get_or_from_slice_get}
use Rattle.pw_info.specs.declared.kind.Kind.{Kind}
use Rattle.pw_procs.specs.Registry.{cells_of}
use Rattle.pw_decl.specs.declared.flat_call.FlatCall.{FlatCall}
use Rattle.pw_decl.specs.declared.step.Callable.TheVariants as callables
use Rattle.pw_decl.specs.Compound.{Compound, no_size, size_of_callable, sizes_of}
use Rattle.pw_decl.specs.Expansion.{Instance, Expands, instance_on, inner_of_steps, inner_after, inner_kinds_of, expand_steps, expand_after, expansion_of, on_places, SpeaksOf}
use Rattle.pw_decl.specs.inside.Held.{instances_of, IsBelow, on_own_places, calls_of, AreCallsOf}
use Rattle.pw_decl.specs.Limits.{most_inner_cells}
use Rattle.pw_decl.specs.WellDeclared.{IsSmall}
use Rattle.pw_decl.proofs.CompoundLaws.{length-sizes_of}
use Rattle.pw_decl.proofs.ExpansionFits.{cells_speak, expansion_speaks}
use Rattle.pw_decl.proofs.ExpansionLemmas.{expand_push, inner_counted, inner_push, length-expand_after, length-inner_after}
use Rattle.pw_decl.proofs.KeptLemmas.{some_is}

-- ---- one more compound

-- the expansions of compounds with one more, each on its own places
pub own_push : (known : List (Expands ℕ)) (compounds : List Compound) (expands : Expands ℕ) (compound : Compound) → length known ≡ length compounds →
    on_own_places (known ++ expands ∷ []) (compounds ++ compound ∷ []) ≡
    on_own_places known compounds ++ on_places expands (length compound.parameters) ∷ []
own_push [] [] expands compound same = refl
own_push [] (first ∷ compounds) expands compound same = absurd (omega arith)
own_push (e ∷ known) [] expands compound same = absurd (omega arith)
own_push (e ∷ known) (first ∷ compounds) expands compound same =
    ap (λ (l : List (List (Instance ℕ))). on_places e (length first.parameters) ∷ l) (own_push known compounds expands compound (omega arith))

-- compounds with one more compound have its expansion after their expansions
pub calls_push : (compounds : List Compound) (compound : Compound) →
    calls_of (compounds ++ compound ∷ []) ≡
    calls_of compounds ++ on_places (expand_steps (inner_after [] compounds) (expand_after [] [] compounds) compound.steps) (length compound.parameters) ∷ []
calls_push compounds compound =
    let known : List (Expands ℕ) = expand_after [] [] compounds in
    let expands : Expands ℕ = expand_steps (inner_after [] compounds) known compound.steps in
    let many : length known ≡ length compounds = omega (arith, length-expand_after {C = ℕ} [] [] compounds) in
    ap (λ (l : List (Expands ℕ)). on_own_places l (compounds ++ compound ∷ [])) (expand_push [] [] compounds compound)
    ∙ own_push known compounds expands compound many

-- if this is kept of compounds, and this is the expansion of one more compound, so it is with that
-- compound added
pub calls_held_push : (compounds : List Compound) (compound : Compound) (kept : List (List (Instance ℕ))) (here : List (Instance ℕ)) →
    kept ≡ calls_of compounds →
    here ≡ on_places (expand_steps (inner_after [] compounds) (expand_after [] [] compounds) compound.steps) (length compound.parameters) →
    kept ++ here ∷ [] ≡ calls_of (compounds ++ compound ∷ [])
calls_held_push compounds compound kept here same is = (λ k. same k ++ is k ∷ []) ∙ sym (calls_push compounds compound)

-- and so with the kinds of inner cells
pub inner_held_push : (compounds : List Compound) (compound : Compound) (kept : List (List Kind)) (here : List Kind) →
    kept ≡ inner_after [] compounds → here ≡ inner_of_steps (inner_after [] compounds) compound.steps →
    kept ++ here ∷ [] ≡ inner_after [] (compounds ++ compound ∷ [])
inner_held_push compounds compound kept here same is = (λ k. same k ++ is k ∷ []) ∙ sym (inner_push [] compounds compound)

-- ---- how many

length-own : (known : List (Expands ℕ)) (compounds : List Compound) → length known ≡ length compounds →
    length (on_own_places known compounds) ≡ length compounds
length-own [] [] same = refl
length-own [] (first ∷ compounds) same = absurd (omega arith)
length-own (e ∷ known) [] same = absurd (omega arith)
length-own (e ∷ known) (first ∷ compounds) same = omega (arith, length-own known compounds (omega arith))

-- there is what as many compounds become
pub length-calls_of : (compounds : List Compound) → length (calls_of compounds) ≡ length compounds
length-calls_of compounds =
    let known : List (Expands ℕ) = expand_after [] [] compounds in
    length-own known compounds (omega (arith, length-expand_after {C = ℕ} [] [] compounds))

-- and as many kinds of inner cells
pub length-inner_of : (compounds : List Compound) → length (inner_after [] compounds) ≡ length compounds
length-inner_of compounds = omega (arith, length-inner_after [] compounds)

-- ---- at the number of a compound

-- each place below the length of a list has an element
pub stands : {A : Type 0} (xs : List A) (n : ℕ) → n < length xs → (x : A) × (slice_get xs n ≡ Some x)
stands [] n within = absurd (omega arith)
stands (x ∷ xs) zero within = (x, refl)
stands (x ∷ xs) (suc n) within = stands xs n (omega arith)

-- the expansion of the compound there, on its own places
pub own_at : (known : List (Expands ℕ)) (compounds : List Compound) (n : ℕ) (compound : Compound) → length known ≡ length compounds →
    slice_get compounds n ≡ Some compound →
    slice_get (on_own_places known compounds) n ≡ Some (on_places (slice_index_or known n (λ cells inner. [])) (length compound.parameters))
own_at [] [] n compound same at = absurd cc
own_at [] (first ∷ compounds) n compound same at = absurd (omega arith)
own_at (e ∷ known) [] n compound same at = absurd (omega arith)
own_at (e ∷ known) (first ∷ compounds) zero compound same at =
    ap (λ (c : Compound). Some (on_places e (length c.parameters))) (some_is first compound at)
own_at (e ∷ known) (first ∷ compounds) (suc n) compound same at = own_at known compounds n compound (omega arith) at

-- it is the expansion of the callable of this number
pub calls_at : (compounds : List Compound) (n : ℕ) (compound : Compound) → slice_get compounds n ≡ Some compound →
    slice_get (calls_of compounds) n ≡ Some (on_places (expansion_of compounds (callables.Compound n)) (length compound.parameters))
calls_at compounds n compound at =
    let known : List (Expands ℕ) = expand_after [] [] compounds in
    own_at known compounds n compound (omega (arith, length-expand_after {C = ℕ} [] [] compounds)) at

-- if this is kept of compounds, the kept calls at a compound's number are its expansion
pub calls_held_at : (compounds : List Compound) (kept : List (List (Instance ℕ))) (n : ℕ) (compound : Compound) (here : List (Instance ℕ)) →
    kept ≡ calls_of compounds → slice_get compounds n ≡ Some compound → slice_get kept n ≡ Some here →
    here ≡ on_places (expansion_of compounds (callables.Compound n)) (length compound.parameters)
calls_held_at compounds kept n compound here same at got =
    some_is here (on_places (expansion_of compounds (callables.Compound n)) (length compound.parameters))
    (sym got ∙ ap (λ (l : List (List (Instance ℕ))). slice_get l n) same ∙ calls_at compounds n compound at)

-- and the kinds there are those of its inner cells
pub inner_held_at : (compounds : List Compound) (kept : List (List Kind)) (n : ℕ) (here : List Kind) →
    kept ≡ inner_after [] compounds → slice_get kept n ≡ Some here → here ≡ inner_kinds_of compounds (callables.Compound n)
inner_held_at compounds kept n here same got =
    sym (get_or_from_slice_get (inner_after [] compounds) n here [] (ap (λ (l : List (List Kind)). slice_get l n) (sym same) ∙ got))

-- a compound has no more inner cells than it may have, if all are small
pub few_inner : (compounds : List Compound) (n : ℕ) → n < length compounds → All IsSmall (sizes_of compounds) →
    length (inner_kinds_of compounds (callables.Compound n)) ≤ most_inner_cells
few_inner compounds n there small =
    let many = length-sizes_of compounds in
    let counted = inner_counted compounds (callables.Compound n) in
    let one : IsSmall (size_of_callable (sizes_of compounds) (callables.Compound n)) = small n no_size (omega (arith, many, there)) in
    let most = one.inner_cells in
    omega (arith, counted, most)

-- ---- on its own places

first_of : {A : Type 0} (P : A → Type 0) (xs ys : List A) → All P (xs ++ ys) → All P xs
first_of P [] ys all = All-nil P
first_of P (x ∷ xs) ys all = All-cons P x xs (All-head P x (xs ++ ys) all) (first_of P xs ys (All-tail P x (xs ++ ys) all))

rest_of : {A : Type 0} (P : A → Type 0) (xs ys : List A) → All P (xs ++ ys) → All P ys
rest_of P [] ys all = all
rest_of P (x ∷ xs) ys all = rest_of P xs ys (All-tail P x (xs ++ ys) all)

places_of_instance : (bound number : ℕ) (cells : List ℕ) → All (SpeaksOf (λ place. place < bound)) (instance_on number cells) →
    All (λ place. place < bound) cells
places_of_instance bound number [] speaks = All-nil (λ place. place < bound)
places_of_instance bound number (cell ∷ cells) speaks = cells_speak (λ place. place < bound) number cell cells speaks

-- if instances of calls mention only the places below a bound, so do the calls
pub calls_below : (bound : ℕ) (calls : List FlatCall) → All (SpeaksOf (λ place. place < bound)) (instances_of calls) → All (IsBelow bound) calls
calls_below bound [] speaks = All-nil (IsBelow bound)
calls_below bound (call ∷ calls) speaks =
    let Speaks : Instance ℕ → Type 0 = SpeaksOf (λ place. place < bound) in
    let one = instance_on call.procedure (cells_of call.places) in
    All-cons (IsBelow bound) call calls
    (places_of_instance bound call.procedure (cells_of call.places) (first_of Speaks one (instances_of calls) speaks))
    (calls_below bound calls (rest_of Speaks one (instances_of calls) speaks))

-- the places from 0 are below their number
pub range_below : (count bound : ℕ) → count ≤ bound → All (λ place. place < bound) (range_with_len 0 count)
range_below count bound within k d lt =
    let many = length-range_with_len 0 count in
    let there : k < count = omega (arith, many, lt) in
    let is = get_or-range_with_len 0 count k d there in
    omega (arith, is, there, within)

-- calls that are what the compound of this number becomes
pub are_calls : (compounds : List Compound) (n : ℕ) (compound : Compound) (calls : List FlatCall) → slice_get compounds n ≡ Some compound →
    instances_of calls ≡ on_places (expansion_of compounds (callables.Compound n)) (length compound.parameters) → AreCallsOf compounds n calls
are_calls compounds n compound calls at same =
    let count = length compound.parameters in
    let bound = count + length (inner_kinds_of compounds (callables.Compound n)) in
    let Speaks : Instance ℕ → Type 0 = SpeaksOf (λ place. place < bound) in
    let speaks : All Speaks (on_places (expansion_of compounds (callables.Compound n)) count) =
    expansion_speaks (λ place. place < bound) compounds (callables.Compound n) (range_with_len 0 count) (λ j. count + j)
    (range_below count bound (omega arith)) (λ j within. omega (arith, within)) in
    record { compound = compound; is = at; calls_are = same; below = calls_below bound calls (subst (All Speaks) (sym same) speaks) }
