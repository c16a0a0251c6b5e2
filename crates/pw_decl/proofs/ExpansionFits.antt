-- The expansion of a callable on cells mentions only these cells and its inner cells, fits their
-- kinds, and has as many instances as its size says.
use Rattle.std.proofs.Common.{◌≡◌, ℕ, zero, suc, ◌+◌, ◌<◌, List, [], ◌∷◌, ◌++◌, Option, Some, None, ◌⊎◌, inl, inr, map, take, length, get_or, refl, sym, ap, subst, ◌∙◌, arith, length-append, append_assoc, append-nil, option_map}
use Rattle.std.specs.Prelude.{All, slice_get, slice_index_or}
use Rattle.std.specs.List.{cons_option}
use Rattle.std.proofs.lemmas.List.{take_more, take_all, map_push, length-map, get_or_push, get_or_append_left}
use Rattle.std.proofs.lemmas.List.Elements.{All-append, All-cons, All-head, All-nil, All-push, All-take}
use Rattle.std.proofs.lemmas.Option.{get_or_from_slice_get, slice_get_within, slice_get-map}
use Rattle.pw_info.specs.declared.kind.Kind.{Kind}
use Rattle.pw_procs.specs.Procedure.{Procedure}
use Rattle.pw_procs.specs.Signature.{input_slots_of, output_slot_of}
use Rattle.pw_procs.specs.Slots.{kind_in_slot}
use Rattle.pw_decl.specs.declared.step.Callable.{Callable}
use Rattle.pw_decl.specs.declared.step.Callable.TheVariants as callables
use Rattle.pw_decl.specs.Compound.{Step, NewCell, CallOn, Compound, AcceptsKinds, kinds_at, AreSteps, AreCompoundsAfter, Size, no_size, size_of_callable, size_of_steps, sizes_after, sizes_of}
use Rattle.pw_decl.specs.Expansion.{Instance, instance_on, inner_of_callable, inner_of_steps, inner_after, inner_kinds_of, Expands, cells_at, expand_callable, expand_steps, expand_after, expansion_of, SpeaksOf, FitsCells}

-- ---- instances

-- what the instance reads, and then what it writes, is what the procedure was put on
pub instance_cells : {C : Type 0} (cell : C) (cells : List C) →
    take (length cells) (cell ∷ cells) ++ slice_index_or (cell ∷ cells) (length cells) cell ∷ [] ≡ cell ∷ cells
instance_cells cell cells =
    sym (take_more (cell ∷ cells) (length cells) cell (omega arith)) ∙ take_all (length cells + 1) (cell ∷ cells) (omega arith)

-- a procedure on cells that are here mentions what is here
pub instance_speaks : {C : Type 0} (IsHere : C → Type 0) (number : ℕ) (cells : List C) → All IsHere cells →
    All (SpeaksOf IsHere) (instance_on number cells)
instance_speaks IsHere number [] here = All-nil (SpeaksOf IsHere)
instance_speaks {C} IsHere number (cell ∷ cells) here =
    let instance : Instance C =
    record { procedure = number; inputs = take (length cells) (cell ∷ cells); output = slice_index_or (cell ∷ cells) (length cells) cell } in
    All-cons (SpeaksOf IsHere) instance [] (All-take IsHere (length cells) (cell ∷ cells) here, here (length cells) cell (omega arith))
    (All-nil (SpeaksOf IsHere))

-- and if it mentions what is here alone, its cells are here
pub cells_speak : {C : Type 0} (IsHere : C → Type 0) (number : ℕ) (cell : C) (cells : List C) →
    All (SpeaksOf IsHere) (instance_on number (cell ∷ cells)) → All IsHere (cell ∷ cells)
cells_speak {C} IsHere number cell cells speaks =
    let instance : Instance C =
    record { procedure = number; inputs = take (length cells) (cell ∷ cells); output = slice_index_or (cell ∷ cells) (length cells) cell } in
    let (inputs, output) = All-head (SpeaksOf IsHere) instance [] speaks in
    subst (All IsHere) (instance_cells cell cells) (All-push IsHere instance.inputs instance.output inputs output)

-- ---- cells that are here

here_with : {C : Type 0} (IsHere : C → Type 0) (o : Option C) (cells : List C) → ((cell : C) → o ≡ Some cell → IsHere cell) → All IsHere cells →
    All IsHere (cons_option o cells)
here_with IsHere None cells at here = here
here_with IsHere (Some cell) cells at here = All-cons IsHere cell cells (at cell refl) here

here_at : {C : Type 0} (IsHere : C → Type 0) (cells : List C) (place : ℕ) → All IsHere cells → (cell : C) → slice_get cells place ≡ Some cell → IsHere cell
here_at IsHere cells place here cell at =
    subst IsHere (get_or_from_slice_get cells place cell cell at) (here place cell (slice_get_within cells place cell at))

-- of cells that are here, those at places are
pub cells_at_here : {C : Type 0} (IsHere : C → Type 0) (cells : List C) (places : List ℕ) → All IsHere cells → All IsHere (cells_at cells places)
cells_at_here IsHere cells [] here = All-nil IsHere
cells_at_here IsHere cells (place ∷ places) here =
    here_with IsHere (slice_get cells place) (cells_at cells places) (here_at IsHere cells place here) (cells_at_here IsHere cells places here)

-- ---- what is mentioned

-- on cells that are here, with inner cells that are, as many as these kinds, it mentions what is
-- here
abbrev Speaks : {C : Type 0} → (C → Type 0) → List Kind → Expands C → Type 0
Speaks {C} IsHere kinds expands =
    (cells : List C) (inner : ℕ → C) → All IsHere cells → ((j : ℕ) → j < length kinds → IsHere (inner j)) → All (SpeaksOf IsHere) (expands cells inner)

-- all that is known does
abbrev AllSpeak : {C : Type 0} → (C → Type 0) → List (List Kind) → List (Expands C) → Type 0
AllSpeak IsHere kinds known = (n : ℕ) → Speaks IsHere (slice_index_or kinds n []) (slice_index_or known n (λ cells inner. []))

callable_speaks : {C : Type 0} (IsHere : C → Type 0) (kinds : List (List Kind)) (known : List (Expands C)) → AllSpeak IsHere kinds known →
    (callable : Callable) → Speaks IsHere (inner_of_callable kinds callable) (expand_callable known callable)
callable_speaks IsHere kinds known speak (callables.Stored number) cells inner here inners = instance_speaks IsHere number cells here
callable_speaks IsHere kinds known speak (callables.Compound number) cells inner here inners = speak number cells inner here inners

steps_speak : {C : Type 0} (IsHere : C → Type 0) (kinds : List (List Kind)) (known : List (Expands C)) → AllSpeak IsHere kinds known →
    (steps : List Step) → Speaks IsHere (inner_of_steps kinds steps) (expand_steps kinds known steps)
steps_speak IsHere kinds known speak [] cells inner here inners = All-nil (SpeaksOf IsHere)
steps_speak IsHere kinds known speak (NewCell kind ∷ steps) cells inner here inners =
    steps_speak IsHere kinds known speak steps (cells ++ inner 0 ∷ []) (λ j. inner (1 + j))
    (All-push IsHere cells (inner 0) here (inners 0 (omega arith))) (λ j lt. inners (1 + j) (omega arith))
steps_speak IsHere kinds known speak (CallOn callable places ∷ steps) cells inner here inners =
    let count = length (inner_of_callable kinds callable) in
    let long = length-append (inner_of_callable kinds callable) (inner_of_steps kinds steps) in
    All-append (SpeaksOf IsHere) (expand_callable known callable (cells_at cells places) inner) (expand_steps kinds known steps cells (λ j. inner (count + j)))
    (callable_speaks IsHere kinds known speak callable (cells_at cells places) inner (cells_at_here IsHere cells places here)
    (λ j lt. inners j (omega arith)))
    (steps_speak IsHere kinds known speak steps cells (λ j. inner (count + j)) here (λ j lt. inners (count + j) (omega arith)))

-- what holds at each place of two lists of one length holds with one more on each
both_push : {A B : Type 0} (R : A → B → Type 0) (xs : List A) (ys : List B) (x none : A) (y nought : B) → length xs ≡ length ys → R none nought →
    ((n : ℕ) → R (get_or xs n none) (get_or ys n nought)) → R x y → (n : ℕ) → R (get_or (xs ++ x ∷ []) n none) (get_or (ys ++ y ∷ []) n nought)
both_push R [] [] x none y nought same past all more zero = more
both_push R [] [] x none y nought same past all more (suc n) = past
both_push R [] (b ∷ ys) x none y nought same past all more n = absurd (omega arith)
both_push R (a ∷ xs) [] x none y nought same past all more n = absurd (omega arith)
both_push R (a ∷ xs) (b ∷ ys) x none y nought same past all more zero = all 0
both_push R (a ∷ xs) (b ∷ ys) x none y nought same past all more (suc n) =
    both_push R xs ys x none y nought (omega arith) past (λ k. all (suc k)) more n

all_speak : {C : Type 0} (IsHere : C → Type 0) (kinds : List (List Kind)) (known : List (Expands C)) → length kinds ≡ length known →
    AllSpeak IsHere kinds known → (compounds : List Compound) → AllSpeak IsHere (inner_after kinds compounds) (expand_after kinds known compounds)
all_speak IsHere kinds known same speak [] = speak
all_speak {C} IsHere kinds known same speak (compound ∷ compounds) =
    let more = inner_of_steps kinds compound.steps in
    let expands : Expands C = expand_steps kinds known compound.steps in
    all_speak IsHere (kinds ++ more ∷ []) (known ++ expands ∷ [])
    (let a = length-append kinds (more ∷ []) in let b = length-append known (expands ∷ []) in omega arith)
    (both_push (Speaks IsHere) kinds known more [] expands (λ cells inner. []) same (λ cells inner here inners. All-nil (SpeaksOf IsHere)) speak
    (steps_speak IsHere kinds known speak compound.steps)) compounds

-- the expansion of a callable on cells that are here, with inner cells that are, mentions what is
-- here
pub expansion_speaks : {C : Type 0} (IsHere : C → Type 0) (compounds : List Compound) (callable : Callable) (cells : List C) (inner : ℕ → C) →
    All IsHere cells → ((j : ℕ) → j < length (inner_kinds_of compounds callable) → IsHere (inner j)) →
    All (SpeaksOf IsHere) (expansion_of compounds callable cells inner)
expansion_speaks {C} IsHere compounds callable =
    callable_speaks IsHere (inner_after [] compounds) (expand_after [] [] compounds)
    (all_speak {C = C} IsHere [] [] refl (λ n cells inner here inners. All-nil (SpeaksOf IsHere)) compounds) callable

-- ---- what holds of all known compounds

-- the n-th of a list with one more is one of those before, or the last
push_cases : {A : Type 0} (xs : List A) (x y : A) (n : ℕ) → slice_get (xs ++ x ∷ []) n ≡ Some y →
    ((n < length xs) × (slice_get xs n ≡ Some y)) ⊎ ((length xs ≡ n) × (x ≡ y))
push_cases [] x y zero at = inr (refl, cc)
push_cases [] x y (suc n) at = absurd cc
push_cases (a ∷ xs) x y zero at = inl (omega arith, at)
push_cases (a ∷ xs) x y (suc n) at =
    elim (push_cases xs x y n at) [ inl before ↦ inl (omega (arith, before.0), before.1) | inr last ↦ inr (omega (arith, last.0), last.1) ]

module _ {C : Type 0} (R : Compound → List Kind → Size → Expands C → Type 0) where
  -- there are as many kinds, sizes and ways to expand as compounds, and those of each compound are
  -- so
  pub record AreAll (compounds : List Compound) (kinds : List (List Kind)) (sizes : List Size) (known : List (Expands C)) : Type 0 where
    pub kinds_count : length kinds ≡ length compounds
    pub sizes_count : length sizes ≡ length compounds
    pub known_count : length known ≡ length compounds
    pub each : (n : ℕ) (compound : Compound) → slice_get compounds n ≡ Some compound →
        R compound (slice_index_or kinds n []) (slice_index_or sizes n no_size) (slice_index_or known n (λ cells inner. []))

  moved : (compound last : Compound) (ks ls : List Kind) (s t : Size) (e f : Expands C) →
      last ≡ compound → ls ≡ ks → t ≡ s → f ≡ e → R compound ks s e → R last ls t f
  moved compound last ks ls s t e f p q r u is =
      subst (λ (c : Compound). R c ls t f) (sym p)
      (subst (λ (l : List Kind). R compound l t f) (sym q)
      (subst (λ (z : Size). R compound ks z f) (sym r) (subst (λ (g : Expands C). R compound ks s g) (sym u) is)))

  -- with one more compound
  pub all_push : (compounds : List Compound) (kinds : List (List Kind)) (sizes : List Size) (known : List (Expands C))
      (compound : Compound) (more : List Kind) (size : Size) (expands : Expands C) → AreAll compounds kinds sizes known → R compound more size expands →
      AreAll (compounds ++ compound ∷ []) (kinds ++ more ∷ []) (sizes ++ size ∷ []) (known ++ expands ∷ [])
  all_push compounds kinds sizes known compound more size expands are is =
      let c = length-append compounds (compound ∷ []) in
      let a = length-append kinds (more ∷ []) in
      let b = length-append sizes (size ∷ []) in
      let d = length-append known (expands ∷ []) in
      let p = are.kinds_count in
      let q = are.sizes_count in
      let r = are.known_count in
      let none : Expands C = λ cells inner. [] in
      record {
        kinds_count = omega arith;
        sizes_count = omega arith;
        known_count = omega arith;
        each = λ n one at.
            elim (push_cases compounds compound one n at) [
              | inl before ↦
                  moved one one (slice_index_or kinds n []) (slice_index_or (kinds ++ more ∷ []) n [])
                  (slice_index_or sizes n no_size) (slice_index_or (sizes ++ size ∷ []) n no_size)
                  (slice_index_or known n none) (slice_index_or (known ++ expands ∷ []) n none)
                  refl
                  (get_or_append_left kinds (more ∷ []) [] n (omega (arith, before.0)))
                  (get_or_append_left sizes (size ∷ []) no_size n (omega (arith, before.0)))
                  (get_or_append_left known (expands ∷ []) none n (omega (arith, before.0)))
                  (are.each n one before.1)
              | inr last ↦
                  moved compound one more (slice_index_or (kinds ++ more ∷ []) n [])
                  size (slice_index_or (sizes ++ size ∷ []) n no_size)
                  expands (slice_index_or (known ++ expands ∷ []) n none)
                  (sym last.1)
                  (get_or_push kinds more [] n (omega (arith, last.0)))
                  (get_or_push sizes size no_size n (omega (arith, last.0)))
                  (get_or_push known expands none n (omega (arith, last.0)))
                  is
            ];
      }

  -- what lines keep, all compounds have
  pub all_after : (procedures : List Procedure) →
      ((compounds : List Compound) (kinds : List (List Kind)) (sizes : List Size) (known : List (Expands C)) → AreAll compounds kinds sizes known →
      (compound : Compound) → AreSteps procedures compounds compound.parameters compound.steps →
      R compound (inner_of_steps kinds compound.steps) (size_of_steps sizes compound.steps) (expand_steps kinds known compound.steps)) →
      (compounds : List Compound) (kinds : List (List Kind)) (sizes : List Size) (known : List (Expands C)) → AreAll compounds kinds sizes known →
      (rest : List Compound) → AreCompoundsAfter procedures compounds rest →
      AreAll (compounds ++ rest) (inner_after kinds rest) (sizes_after sizes rest) (expand_after kinds known rest)
  all_after procedures keep compounds kinds sizes known are [] good =
      subst (λ (l : List Compound). AreAll l kinds sizes known) (sym (append-nil compounds)) are
  all_after procedures keep compounds kinds sizes known are (compound ∷ rest) (steps, good) =
      let more = inner_of_steps kinds compound.steps in
      let size = size_of_steps sizes compound.steps in
      let expands : Expands C = expand_steps kinds known compound.steps in
      subst
      (λ (l : List Compound). AreAll l (inner_after (kinds ++ more ∷ []) rest) (sizes_after (sizes ++ size ∷ []) rest)
      (expand_after (kinds ++ more ∷ []) (known ++ expands ∷ []) rest))
      (append_assoc compounds (compound ∷ []) rest)
      (all_after procedures keep (compounds ++ compound ∷ []) (kinds ++ more ∷ []) (sizes ++ size ∷ []) (known ++ expands ∷ [])
      (all_push compounds kinds sizes known compound more size expands are (keep compounds kinds sizes known are compound steps)) rest good)

  -- and from none
  pub all_of : (procedures : List Procedure) →
      ((compounds : List Compound) (kinds : List (List Kind)) (sizes : List Size) (known : List (Expands C)) → AreAll compounds kinds sizes known →
      (compound : Compound) → AreSteps procedures compounds compound.parameters compound.steps →
      R compound (inner_of_steps kinds compound.steps) (size_of_steps sizes compound.steps) (expand_steps kinds known compound.steps)) →
      (compounds : List Compound) → AreCompoundsAfter procedures [] compounds →
      AreAll compounds (inner_after [] compounds) (sizes_of compounds) (expand_after [] [] compounds)
  all_of procedures keep =
      all_after procedures keep [] [] [] [] (record { kinds_count = refl; sizes_count = refl; known_count = refl; each = λ n compound at. absurd cc })

-- ---- kinds

map_cons_option : {C D : Type 0} (f : C → D) (o : Option C) (cells : List C) → map f (cons_option o cells) ≡ cons_option (option_map f o) (map f cells)
map_cons_option f None cells = refl
map_cons_option f (Some cell) cells = refl

-- the kinds of cells at places are the kinds at these places
pub kinds_of_cells_at : {C : Type 0} (kind : C → Kind) (cells : List C) (places : List ℕ) → map kind (cells_at cells places) ≡ kinds_at (map kind cells) places
kinds_of_cells_at kind cells [] = refl
kinds_of_cells_at kind cells (place ∷ places) =
    map_cons_option kind (slice_get cells place) (cells_at cells places)
    ∙ ap (λ (o : Option Kind). cons_option o (map kind (cells_at cells places))) (sym (slice_get-map kind cells place))
    ∙ ap (λ (l : List Kind). cons_option (slice_get (map kind cells) place) l) (kinds_of_cells_at kind cells places)

-- what is at a place of the first of two lists is at that place of both joined
pub get_before : {A : Type 0} (xs ys : List A) (n : ℕ) (x : A) → slice_get xs n ≡ Some x → slice_get (xs ++ ys) n ≡ Some x
get_before [] ys n x at = absurd cc
get_before (y ∷ xs) ys zero x at = at
get_before (y ∷ xs) ys (suc n) x at = get_before xs ys n x at

-- and what is in the second, as many places further
pub get_behind : {A : Type 0} (xs ys : List A) (n : ℕ) → slice_get (xs ++ ys) (length xs + n) ≡ slice_get ys n
get_behind [] ys n = ap (slice_get ys) (omega arith)
get_behind (x ∷ xs) ys n = ap (slice_get (x ∷ xs ++ ys)) (let e : length (x ∷ xs) + n ≡ suc (length xs + n) = omega arith in e) ∙ get_behind xs ys n

-- ---- instances fit their cells

-- the inner cells are of these kinds
abbrev AreInner : {C : Type 0} → (C → Kind) → List Kind → (ℕ → C) → Type 0
AreInner kind kinds inner = (j : ℕ) (k : Kind) → slice_get kinds j ≡ Some k → kind (inner j) ≡ k

-- on cells of the kinds of the parameters, with inner cells of these kinds, its instances fit
abbrev Fits : {C : Type 0} → List Procedure → (C → Kind) → Compound → List Kind → Size → Expands C → Type 0
Fits {C} procedures kind compound kinds size expands =
    (cells : List C) (inner : ℕ → C) → map kind cells ≡ compound.parameters → AreInner kind kinds inner → All (FitsCells procedures kind) (expands cells inner)

-- a procedure on cells of which it accepts the kinds fits them
pub instance_fits : {C : Type 0} (procedures : List Procedure) (kind : C → Kind) (compounds : List Compound) (number : ℕ) (cells : List C) →
    AcceptsKinds procedures compounds (callables.Stored number) (map kind cells) → All (FitsCells procedures kind) (instance_on number cells)
instance_fits procedures kind compounds number [] accepts = All-nil (FitsCells procedures kind)
instance_fits {C} procedures kind compounds number (cell ∷ cells) accepts =
    let instance : Instance C =
    record { procedure = number; inputs = take (length cells) (cell ∷ cells); output = slice_index_or (cell ∷ cells) (length cells) cell } in
    All-cons (FitsCells procedures kind) instance []
    (subst (λ (l : List Kind). AcceptsKinds procedures [] (callables.Stored number) l)
    (sym (ap (map kind) (instance_cells cell cells)) ∙ map_push kind instance.inputs instance.output) accepts)
    (All-nil (FitsCells procedures kind))

callable_fits : {C : Type 0} (procedures : List Procedure) (kind : C → Kind) (compounds : List Compound) (kinds : List (List Kind)) (sizes : List Size)
    (known : List (Expands C)) → AreAll (Fits procedures kind) compounds kinds sizes known → (callable : Callable) (cells : List C) (inner : ℕ → C) →
    AcceptsKinds procedures compounds callable (map kind cells) → AreInner kind (inner_of_callable kinds callable) inner →
    All (FitsCells procedures kind) (expand_callable known callable cells inner)
callable_fits procedures kind compounds kinds sizes known are (callables.Stored number) cells inner accepts inners =
    instance_fits procedures kind compounds number cells accepts
callable_fits procedures kind compounds kinds sizes known are (callables.Compound number) cells inner (compound, at, same) inners =
    are.each number compound at cells inner same inners

steps_fit : {C : Type 0} (procedures : List Procedure) (kind : C → Kind) (compounds : List Compound) (kinds : List (List Kind)) (sizes : List Size)
    (known : List (Expands C)) → AreAll (Fits procedures kind) compounds kinds sizes known → (steps : List Step) (so_far : List Kind) (cells : List C)
    (inner : ℕ → C) → AreSteps procedures compounds so_far steps → map kind cells ≡ so_far → AreInner kind (inner_of_steps kinds steps) inner →
    All (FitsCells procedures kind) (expand_steps kinds known steps cells inner)
steps_fit procedures kind compounds kinds sizes known are [] so_far cells inner good same inners = All-nil (FitsCells procedures kind)
steps_fit procedures kind compounds kinds sizes known are (NewCell new ∷ steps) so_far cells inner good same inners =
    steps_fit procedures kind compounds kinds sizes known are steps (so_far ++ new ∷ []) (cells ++ inner 0 ∷ []) (λ j. inner (1 + j)) good
    (map_push kind cells (inner 0) ∙ ap (λ (l : List Kind). l ++ kind (inner 0) ∷ []) same ∙ ap (λ (k : Kind). so_far ++ k ∷ []) (inners 0 new refl))
    (λ j k at. inners (1 + j) k (get_behind (new ∷ []) (inner_of_steps kinds steps) j ∙ at))
steps_fit procedures kind compounds kinds sizes known are (CallOn callable places ∷ steps) so_far cells inner (there, accepts, good) same inners =
    let mine = inner_of_callable kinds callable in
    let rest = inner_of_steps kinds steps in
    All-append (FitsCells procedures kind) (expand_callable known callable (cells_at cells places) inner)
    (expand_steps kinds known steps cells (λ j. inner (length mine + j)))
    (callable_fits procedures kind compounds kinds sizes known are callable (cells_at cells places) inner
    (subst (λ (l : List Kind). AcceptsKinds procedures compounds callable l)
    (sym (kinds_of_cells_at kind cells places ∙ ap (λ (l : List Kind). kinds_at l places) same)) accepts)
    (λ j k at. inners j k (get_before mine rest j k at)))
    (steps_fit procedures kind compounds kinds sizes known are steps so_far cells (λ j. inner (length mine + j)) good same
    (λ j k at. inners (length mine + j) k (get_behind mine rest j ∙ at)))

-- the expansion of a callable on cells of which it accepts the kinds, with inner cells of their
-- kinds, fits its cells
pub expansion_fits : {C : Type 0} (procedures : List Procedure) (kind : C → Kind) (compounds : List Compound) (callable : Callable) (cells : List C)
    (inner : ℕ → C) → AreCompoundsAfter procedures [] compounds → AcceptsKinds procedures compounds callable (map kind cells) →
    ((j : ℕ) (k : Kind) → slice_get (inner_kinds_of compounds callable) j ≡ Some k → kind (inner j) ≡ k) →
    All (FitsCells procedures kind) (expansion_of compounds callable cells inner)
expansion_fits procedures kind compounds callable cells inner good accepts inners =
    callable_fits procedures kind compounds (inner_after [] compounds) (sizes_of compounds) (expand_after [] [] compounds)
    (all_of (Fits procedures kind) procedures
    (λ before kinds sizes known are compound steps cells inner same inners.
    steps_fit procedures kind before kinds sizes known are compound.steps compound.parameters cells inner steps same inners)
    compounds good)
    callable cells inner accepts inners

-- ---- there are as many instances as the size says

-- on as many cells as there are parameters, it has as many instances as the size
abbrev IsCounted : {C : Type 0} → Compound → List Kind → Size → Expands C → Type 0
IsCounted {C} compound kinds size expands =
    (cells : List C) (inner : ℕ → C) → length cells ≡ length compound.parameters → length (expands cells inner) ≡ size.instances

-- a procedure does not accept no kinds
pub accepts_some : (procedures : List Procedure) (compounds : List Compound) (number : ℕ) (kinds : List Kind) →
    AcceptsKinds procedures compounds (callables.Stored number) kinds → 0 < length kinds
accepts_some procedures compounds number kinds (procedure, at, (same, are)) =
    let slots = input_slots_of procedure.signature in
    let output = output_slot_of procedure.signature in
    let a : length kinds ≡ length (map (kind_in_slot same) (slots ++ output ∷ [])) = ap length are in
    let b = length-map (slots ++ output ∷ []) (kind_in_slot same) in
    let c = length-append slots (output ∷ []) in
    omega arith

instance_counted : {C : Type 0} (number : ℕ) (cells : List C) → 0 < length cells → length (instance_on number cells) ≡ 1
instance_counted number [] some = absurd (omega arith)
instance_counted number (cell ∷ cells) some = refl

lengths_with : {A B : Type 0} (xs : List A) (ys : List B) (n : ℕ) (as_are : List A) (bs_are : List B) → length xs ≡ length ys → length as_are ≡ length bs_are →
    length (cons_option (slice_get xs n) as_are) ≡ length (cons_option (slice_get ys n) bs_are)
lengths_with [] [] n as_are bs_are same rest = rest
lengths_with [] (y ∷ ys) n as_are bs_are same rest = absurd (omega arith)
lengths_with (x ∷ xs) [] n as_are bs_are same rest = absurd (omega arith)
lengths_with (x ∷ xs) (y ∷ ys) zero as_are bs_are same rest = omega arith
lengths_with (x ∷ xs) (y ∷ ys) (suc n) as_are bs_are same rest = lengths_with xs ys n as_are bs_are (omega arith) rest

-- as many cells are at places as kinds do
pub length-cells_at : {C : Type 0} (cells : List C) (kinds : List Kind) (places : List ℕ) → length cells ≡ length kinds →
    length (cells_at cells places) ≡ length (kinds_at kinds places)
length-cells_at cells kinds [] same = refl
length-cells_at cells kinds (place ∷ places) same =
    lengths_with cells kinds place (cells_at cells places) (kinds_at kinds places) same (length-cells_at cells kinds places same)

callable_counted : {C : Type 0} (procedures : List Procedure) (compounds : List Compound) (kinds : List (List Kind)) (sizes : List Size)
    (known : List (Expands C)) → AreAll IsCounted compounds kinds sizes known → (callable : Callable) (cells : List C) (inner : ℕ → C)
    (of_cells : List Kind) → AcceptsKinds procedures compounds callable of_cells → length cells ≡ length of_cells →
    length (expand_callable known callable cells inner) ≡ (size_of_callable sizes callable).instances
callable_counted procedures compounds kinds sizes known are (callables.Stored number) cells inner of_cells accepts same =
    instance_counted number cells (let some = accepts_some procedures compounds number of_cells accepts in omega arith)
callable_counted procedures compounds kinds sizes known are (callables.Compound number) cells inner of_cells (compound, at, are_these) same =
    are.each number compound at cells inner (same ∙ ap length are_these)

steps_counted : {C : Type 0} (procedures : List Procedure) (compounds : List Compound) (kinds : List (List Kind)) (sizes : List Size)
    (known : List (Expands C)) → AreAll IsCounted compounds kinds sizes known → (steps : List Step) (so_far : List Kind) (cells : List C)
    (inner : ℕ → C) → AreSteps procedures compounds so_far steps → length cells ≡ length so_far →
    length (expand_steps kinds known steps cells inner) ≡ (size_of_steps sizes steps).instances
steps_counted procedures compounds kinds sizes known are [] so_far cells inner good same = refl
steps_counted procedures compounds kinds sizes known are (NewCell new ∷ steps) so_far cells inner good same =
    let a = length-append cells (inner 0 ∷ []) in
    let b = length-append so_far (new ∷ []) in
    let rest = steps_counted procedures compounds kinds sizes known are steps (so_far ++ new ∷ []) (cells ++ inner 0 ∷ []) (λ j. inner (1 + j)) good
    (omega arith) in
    omega arith
steps_counted procedures compounds kinds sizes known are (CallOn callable places ∷ steps) so_far cells inner (there, accepts, good) same =
    let next = λ (j : ℕ). inner (length (inner_of_callable kinds callable) + j) in
    let mine = callable_counted procedures compounds kinds sizes known are callable (cells_at cells places) inner (kinds_at so_far places) accepts
    (length-cells_at cells so_far places same) in
    let rest = steps_counted procedures compounds kinds sizes known are steps so_far cells next good same in
    length-append (expand_callable known callable (cells_at cells places) inner) (expand_steps kinds known steps cells next) ∙ omega arith

-- the expansion of a callable on cells of which it accepts the kinds has as many instances as its
-- size says
pub expansion_counted : {C : Type 0} (procedures : List Procedure) (kind : C → Kind) (compounds : List Compound) (callable : Callable) (cells : List C)
    (inner : ℕ → C) → AreCompoundsAfter procedures [] compounds → AcceptsKinds procedures compounds callable (map kind cells) →
    length (expansion_of compounds callable cells inner) ≡ (size_of_callable (sizes_of compounds) callable).instances
expansion_counted {C} procedures kind compounds callable cells inner good accepts =
    callable_counted procedures compounds (inner_after [] compounds) (sizes_of compounds) (expand_after [] [] compounds)
    (all_of {C = C} IsCounted procedures
    (λ before kinds sizes known are compound steps cells inner same.
    steps_counted procedures before kinds sizes known are compound.steps compound.parameters cells inner steps same)
    compounds good)
    callable cells inner (map kind cells) accepts (sym (length-map cells kind))
