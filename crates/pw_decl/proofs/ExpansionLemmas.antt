-- Expansion: what one more line and one more compound make of it, how many inner cells there are,
-- and that the names of cells do not matter.
use Rattle.std.proofs.Common.{◌≡◌, ℕ, zero, suc, ◌+◌, ◌<◌, List, [], ◌∷◌, ◌++◌, Option, Some, None, map, take, length, get_or, refl, sym, ap, ◌∙◌, arith, append_assoc, length-append}
use Rattle.std.proofs.Math.ListN.{get_or-map}
use Rattle.std.proofs.lemmas.List.{length-map, map-append, map_push, take-map}
use Rattle.std.proofs.lemmas.Option.{slice_get-map}
use Rattle.std.specs.Prelude.{slice_get, slice_index_or}
use Rattle.std.specs.List.{filter_map, cons_option, range_with_len}
use Rattle.std.specs.Option.{option_map}
use Rattle.pw_info.specs.declared.kind.Kind.{Kind}
use Rattle.pw_decl.specs.declared.step.Callable.{Callable}
use Rattle.pw_decl.specs.declared.step.Callable.TheVariants as callables
use Rattle.pw_decl.specs.Compound.{Compound, Step, NewCell, CallOn, new_kinds, Size, no_size, size_of_callable, size_of_steps, sizes_after, sizes_of}
use Rattle.pw_decl.specs.inside.Flattening.{cells_after}
use Rattle.pw_decl.specs.Expansion.{Instance, instance_on, renamed, inner_of_callable, inner_of_steps, inner_after, inner_kinds_of, Expands, cells_at, expand_callable, expand_steps, expand_after, expansion_of, at_place, on_places}

-- ---- names of cells, of one instance

-- a procedure on named cells is its instance, named
pub instance_on_renamed : {C D : Type 0} (name : C → D) (number : ℕ) (cells : List C) →
    instance_on number (map name cells) ≡ map (renamed name) (instance_on number cells)
instance_on_renamed name number [] = refl
instance_on_renamed {C} {D} name number (cell ∷ cells) =
    let many : length (map name cells) ≡ length cells = length-map cells name in
    let inputs : take (length (map name cells)) (map name (cell ∷ cells)) ≡ map name (take (length cells) (cell ∷ cells)) =
    ap (λ (n : ℕ). take n (map name (cell ∷ cells))) many ∙ take-map name (length cells) (cell ∷ cells) in
    let output : get_or (map name (cell ∷ cells)) (length (map name cells)) (name cell) ≡ name (get_or (cell ∷ cells) (length cells) cell) =
    ap (λ (n : ℕ). get_or (map name (cell ∷ cells)) n (name cell)) many ∙ get_or-map name (cell ∷ cells) (length cells) cell in
    λ k. record { procedure = number; inputs = inputs k; output = output k } ∷ []

cons_named : {C D : Type 0} (name : C → D) (o : Option C) (cells : List C) →
    cons_option (option_map name o) (map name cells) ≡ map name (cons_option o cells)
cons_named name None cells = refl
cons_named name (Some cell) cells = refl

-- named cells at places are the cells there, named
pub cells_at_map : {C D : Type 0} (name : C → D) (cells : List C) (places : List ℕ) → cells_at (map name cells) places ≡ map name (cells_at cells places)
cells_at_map name cells [] = refl
cells_at_map {C} {D} name cells (place ∷ places) =
    ap (λ (o : Option D). cons_option o (filter_map (slice_get (map name cells)) places)) (slice_get-map name cells place)
    ∙ ap (cons_option (option_map name (slice_get cells place))) (cells_at_map name cells places)
    ∙ cons_named name (slice_get cells place) (filter_map (slice_get cells) places)

-- ---- one more compound

-- compounds with one more compound have its inner cells after theirs
pub inner_push : (known : List (List Kind)) (compounds : List Compound) (compound : Compound) →
    inner_after known (compounds ++ compound ∷ []) ≡ inner_after known compounds ++ inner_of_steps (inner_after known compounds) compound.steps ∷ []
inner_push known [] compound = refl
inner_push known (first ∷ compounds) compound = inner_push (known ++ inner_of_steps known first.steps ∷ []) compounds compound

-- and its expansion, after their expansions
pub expand_push : {C : Type 0} (kinds : List (List Kind)) (known : List (Expands C)) (compounds : List Compound) (compound : Compound) →
    expand_after kinds known (compounds ++ compound ∷ []) ≡
    expand_after kinds known compounds ++ expand_steps (inner_after kinds compounds) (expand_after kinds known compounds) compound.steps ∷ []
expand_push kinds known [] compound = refl
expand_push kinds known (first ∷ compounds) compound =
    expand_push (kinds ++ inner_of_steps kinds first.steps ∷ []) (known ++ expand_steps kinds known first.steps ∷ []) compounds compound

-- there are the inner cells of as many compounds
pub length-inner_after : (known : List (List Kind)) (compounds : List Compound) → length (inner_after known compounds) ≡ length known + length compounds
length-inner_after known [] = omega arith
length-inner_after known (first ∷ compounds) =
    omega (arith, length-inner_after (known ++ inner_of_steps known first.steps ∷ []) compounds, length-append known (inner_of_steps known first.steps ∷ []))

-- and what as many become
pub length-expand_after : {C : Type 0} (kinds : List (List Kind)) (known : List (Expands C)) (compounds : List Compound) →
    length (expand_after kinds known compounds) ≡ length known + length compounds
length-expand_after kinds known [] = omega arith
length-expand_after {C} kinds known (first ∷ compounds) =
    let rest = length-expand_after (kinds ++ inner_of_steps kinds first.steps ∷ []) (known ++ expand_steps kinds known first.steps ∷ []) compounds in
    let one = length-append known (expand_steps kinds known first.steps ∷ []) in
    omega (arith, rest, one)

-- ---- one more line

-- lines with one more line have its inner cells after theirs
pub inner_steps_push : (known : List (List Kind)) (steps : List Step) (step : Step) →
    inner_of_steps known (steps ++ step ∷ []) ≡ inner_of_steps known steps ++ inner_of_steps known (step ∷ [])
inner_steps_push known [] step = refl
inner_steps_push known (NewCell kind ∷ steps) step = ap (λ (l : List Kind). kind ∷ l) (inner_steps_push known steps step)
inner_steps_push known (CallOn callable places ∷ steps) step =
    ap (λ (l : List Kind). inner_of_callable known callable ++ l) (inner_steps_push known steps step)
    ∙ sym (append_assoc (inner_of_callable known callable) (inner_of_steps known steps) (inner_of_steps known (step ∷ [])))

-- moved by none
not_moved : {C : Type 0} (inner : ℕ → C) → inner ≡ (λ j. inner (0 + j))
not_moved inner =
    let same : (j : ℕ) → j ≡ 0 + j = λ j. omega arith in
    λ k j. inner (same j k)

-- moved twice is moved once by the sum
moved_twice : {C : Type 0} (inner : ℕ → C) (a b c : ℕ) → c ≡ a + b → Path (ℕ → C) (λ j. inner (a + (b + j))) (λ j. inner (c + j))
moved_twice inner a b c sum =
    let same : (j : ℕ) → a + (b + j) ≡ c + j = λ j. omega arith in
    λ k j. inner (same j k)

-- the expansion of lines with one more line is their expansion, and then its expansion on the cells
-- after them
pub expand_steps_push : {C : Type 0} (kinds : List (List Kind)) (known : List (Expands C)) (steps : List Step) (step : Step) (cells : List C)
    (inner : ℕ → C) → expand_steps kinds known (steps ++ step ∷ []) cells inner ≡
    expand_steps kinds known steps cells inner
    ++ expand_steps kinds known (step ∷ []) (cells_after kinds steps cells inner) (λ j. inner (length (inner_of_steps kinds steps) + j))
expand_steps_push kinds known [] step cells inner = ap (expand_steps kinds known (step ∷ []) cells) (not_moved inner)
expand_steps_push {C} kinds known (NewCell kind ∷ steps) step cells inner =
    let more : List C = cells ++ inner 0 ∷ [] in
    expand_steps_push kinds known steps step more (λ j. inner (1 + j))
    ∙ ap
    (λ (f : ℕ → C).
    expand_steps kinds known steps more (λ j. inner (1 + j))
    ++ expand_steps kinds known (step ∷ []) (cells_after kinds steps more (λ j. inner (1 + j))) f)
    (moved_twice inner 1 (length (inner_of_steps kinds steps)) (length (kind ∷ inner_of_steps kinds steps)) (omega arith))
expand_steps_push {C} kinds known (CallOn callable places ∷ steps) step cells inner =
    let own : List Kind = inner_of_callable kinds callable in
    let first : List (Instance C) = expand_callable known callable (cells_at cells places) inner in
    let next : ℕ → C = λ j. inner (length own + j) in
    let rest : List (Instance C) = expand_steps kinds known steps cells next in
    let there : List C = cells_after kinds steps cells next in
    ap (λ (l : List (Instance C)). first ++ l) (expand_steps_push kinds known steps step cells next)
    ∙ sym (append_assoc first rest (expand_steps kinds known (step ∷ []) there (λ j. next (length (inner_of_steps kinds steps) + j))))
    ∙ ap (λ (f : ℕ → C). (first ++ rest) ++ expand_steps kinds known (step ∷ []) there f)
    (moved_twice inner (length own) (length (inner_of_steps kinds steps)) (length (own ++ inner_of_steps kinds steps))
    (length-append own (inner_of_steps kinds steps)))

-- the cells after lines with one more line are those after it, from those after them
pub cells_after_push : {C : Type 0} (kinds : List (List Kind)) (steps : List Step) (step : Step) (cells : List C) (inner : ℕ → C) →
    cells_after kinds (steps ++ step ∷ []) cells inner ≡
    cells_after kinds (step ∷ []) (cells_after kinds steps cells inner) (λ j. inner (length (inner_of_steps kinds steps) + j))
cells_after_push kinds [] step cells inner = ap (cells_after kinds (step ∷ []) cells) (not_moved inner)
cells_after_push {C} kinds (NewCell kind ∷ steps) step cells inner =
    let more : List C = cells ++ inner 0 ∷ [] in
    cells_after_push kinds steps step more (λ j. inner (1 + j))
    ∙ ap (cells_after kinds (step ∷ []) (cells_after kinds steps more (λ j. inner (1 + j))))
    (moved_twice inner 1 (length (inner_of_steps kinds steps)) (length (kind ∷ inner_of_steps kinds steps)) (omega arith))
cells_after_push {C} kinds (CallOn callable places ∷ steps) step cells inner =
    let own : List Kind = inner_of_callable kinds callable in
    let next : ℕ → C = λ j. inner (length own + j) in
    cells_after_push kinds steps step cells next
    ∙ ap (cells_after kinds (step ∷ []) (cells_after kinds steps cells next))
    (moved_twice inner (length own) (length (inner_of_steps kinds steps)) (length (own ++ inner_of_steps kinds steps))
    (length-append own (inner_of_steps kinds steps)))

-- each line that makes a private cell adds one
pub length-cells_after : {C : Type 0} (kinds : List (List Kind)) (steps : List Step) (cells : List C) (inner : ℕ → C) →
    length (cells_after kinds steps cells inner) ≡ length cells + length (new_kinds steps)
length-cells_after kinds [] cells inner = omega arith
length-cells_after kinds (NewCell kind ∷ steps) cells inner =
    let rest = length-cells_after kinds steps (cells ++ inner 0 ∷ []) (λ j. inner (1 + j)) in
    let one = length-append cells (inner 0 ∷ []) in
    omega (arith, rest, one)
length-cells_after kinds (CallOn callable places ∷ steps) cells inner =
    length-cells_after kinds steps cells (λ j. inner (length (inner_of_callable kinds callable) + j))

-- ---- how many inner cells there are

-- the sizes say how many inner cells there are
AreCounted : List (List Kind) → List Size → Type 0
AreCounted known sizes = map (λ (l : List Kind). length l) known ≡ map (λ (s : Size). s.inner_cells) sizes

counted_callable : (known : List (List Kind)) (sizes : List Size) → AreCounted known sizes → (callable : Callable) →
    length (inner_of_callable known callable) ≡ (size_of_callable sizes callable).inner_cells
unfolding AreCounted
counted_callable known sizes same (callables.Stored number) = refl
counted_callable known sizes same (callables.Compound number) =
    sym (get_or-map (λ (l : List Kind). length l) known number []) ∙ ap (λ (l : List ℕ). get_or l number 0) same
    ∙ get_or-map (λ (s : Size). s.inner_cells) sizes number no_size

counted_steps : (known : List (List Kind)) (sizes : List Size) → AreCounted known sizes → (steps : List Step) →
    length (inner_of_steps known steps) ≡ (size_of_steps sizes steps).inner_cells
counted_steps known sizes same [] = refl
counted_steps known sizes same (NewCell kind ∷ steps) = omega (arith, counted_steps known sizes same steps)
counted_steps known sizes same (CallOn callable places ∷ steps) =
    let one = counted_callable known sizes same callable in
    let rest = counted_steps known sizes same steps in
    let both = length-append (inner_of_callable known callable) (inner_of_steps known steps) in
    omega (arith, one, rest, both)

counted_after : (known : List (List Kind)) (sizes : List Size) (compounds : List Compound) → AreCounted known sizes →
    AreCounted (inner_after known compounds) (sizes_after sizes compounds)
unfolding AreCounted
counted_after known sizes [] same = same
counted_after known sizes (compound ∷ compounds) same =
    let here : length (inner_of_steps known compound.steps) ≡ (size_of_steps sizes compound.steps).inner_cells =
    counted_steps known sizes same compound.steps in
    let pushed : map (λ (l : List Kind). length l) known ++ length (inner_of_steps known compound.steps) ∷ [] ≡
    map (λ (s : Size). s.inner_cells) sizes ++ (size_of_steps sizes compound.steps).inner_cells ∷ [] =
    λ k. same k ++ here k ∷ [] in
    counted_after (known ++ inner_of_steps known compound.steps ∷ []) (sizes ++ size_of_steps sizes compound.steps ∷ []) compounds
    (map_push (λ (l : List Kind). length l) known (inner_of_steps known compound.steps) ∙ pushed
    ∙ sym (map_push (λ (s : Size). s.inner_cells) sizes (size_of_steps sizes compound.steps)))

-- lines have as many inner cells as their size says
pub inner_steps_counted : (compounds : List Compound) (steps : List Step) →
    length (inner_of_steps (inner_after [] compounds) steps) ≡ (size_of_steps (sizes_of compounds) steps).inner_cells
unfolding AreCounted
inner_steps_counted compounds steps = counted_steps (inner_after [] compounds) (sizes_of compounds) (counted_after [] [] compounds refl) steps

-- a callable has as many inner cells as its size says
pub inner_counted : (compounds : List Compound) (callable : Callable) →
    length (inner_kinds_of compounds callable) ≡ (size_of_callable (sizes_of compounds) callable).inner_cells
unfolding AreCounted
inner_counted compounds callable = counted_callable (inner_after [] compounds) (sizes_of compounds) (counted_after [] [] compounds refl) callable

-- ---- the names of cells do not matter

-- if there are these inner cells, what the one gives of cells and the other of named cells are the
-- same instances, named
abbrev Renames : {C D : Type 0} → (C → D) → List Kind → Expands C → Expands D → Type 0
Renames {C} {D} name kinds expands named =
    (cells : List C) (inner : ℕ → C) (others : ℕ → D) → ((j : ℕ) → j < length kinds → others j ≡ name (inner j)) →
    named (map name cells) others ≡ map (renamed name) (expands cells inner)

-- each does
abbrev AllRename : {C D : Type 0} → (C → D) → List (List Kind) → List (Expands C) → List (Expands D) → Type 0
AllRename name [] [] [] = Unit {0}
AllRename name (kind ∷ kinds) (expands ∷ known) (named ∷ others) = Renames name kind expands named × AllRename name kinds known others
AllRename name kinds known others = ⊥

renames_push : {C D : Type 0} (name : C → D) (kinds : List (List Kind)) (known : List (Expands C)) (others : List (Expands D))
    (kind : List Kind) (expands : Expands C) (named : Expands D) → AllRename name kinds known others → Renames name kind expands named →
    AllRename name (kinds ++ kind ∷ []) (known ++ expands ∷ []) (others ++ named ∷ [])
renames_push name [] [] [] kind expands named all one = (one, tt)
renames_push name (k ∷ kinds) (e ∷ known) (n ∷ others) kind expands named all one =
    (all.0, renames_push name kinds known others kind expands named all.1 one)
renames_push name kinds known others kind expands named all one = absurd all

renames_at : {C D : Type 0} (name : C → D) (kinds : List (List Kind)) (known : List (Expands C)) (others : List (Expands D)) (number : ℕ) →
    AllRename name kinds known others →
    Renames name (slice_index_or kinds number []) (slice_index_or known number (λ cells inner. [])) (slice_index_or others number (λ cells inner. []))
renames_at name [] [] [] number all = λ cells inner other same. refl
renames_at name (k ∷ kinds) (e ∷ known) (n ∷ others) zero all = all.0
renames_at name (k ∷ kinds) (e ∷ known) (n ∷ others) (suc number) all = renames_at name kinds known others number all.1
renames_at name kinds known others number all = absurd all

renames_callable : {C D : Type 0} (name : C → D) (kinds : List (List Kind)) (known : List (Expands C)) (others : List (Expands D)) →
    AllRename name kinds known others → (callable : Callable) →
    Renames name (inner_of_callable kinds callable) (expand_callable known callable) (expand_callable others callable)
renames_callable name kinds known others all (callables.Stored number) = λ cells inner other same. instance_on_renamed name number cells
renames_callable name kinds known others all (callables.Compound number) = renames_at name kinds known others number all

renames_steps : {C D : Type 0} (name : C → D) (kinds : List (List Kind)) (known : List (Expands C)) (others : List (Expands D)) →
    AllRename name kinds known others → (steps : List Step) →
    Renames name (inner_of_steps kinds steps) (expand_steps kinds known steps) (expand_steps kinds others steps)
renames_steps name kinds known others all [] = λ cells inner other same. refl
renames_steps {C} {D} name kinds known others all (NewCell kind ∷ steps) = λ cells inner other same.
    let cell : map name cells ++ other 0 ∷ [] ≡ map name (cells ++ inner 0 ∷ []) =
    ap (λ (d : D). map name cells ++ d ∷ []) (same 0 (omega arith)) ∙ sym (map_push name cells (inner 0)) in
    ap (λ (l : List D). expand_steps kinds others steps l (λ j. other (1 + j))) cell
    ∙ renames_steps name kinds known others all steps (cells ++ inner 0 ∷ []) (λ j. inner (1 + j)) (λ j. other (1 + j))
    (λ j within. same (1 + j) (omega arith))
renames_steps {C} {D} name kinds known others all (CallOn callable places ∷ steps) = λ cells inner other same.
    let own : List Kind = inner_of_callable kinds callable in
    let many : length (own ++ inner_of_steps kinds steps) ≡ length own + length (inner_of_steps kinds steps) =
    length-append own (inner_of_steps kinds steps) in
    let first : expand_callable others callable (cells_at (map name cells) places) other ≡
    map (renamed name) (expand_callable known callable (cells_at cells places) inner) =
    ap (λ (l : List D). expand_callable others callable l other) (cells_at_map name cells places)
    ∙ renames_callable name kinds known others all callable (cells_at cells places) inner other (λ j within. same j (omega arith)) in
    let rest : expand_steps kinds others steps (map name cells) (λ j. other (length own + j)) ≡
    map (renamed name) (expand_steps kinds known steps cells (λ j. inner (length own + j))) =
    renames_steps name kinds known others all steps cells (λ j. inner (length own + j)) (λ j. other (length own + j))
    (λ j within. same (length own + j) (omega arith)) in
    let both : expand_callable others callable (cells_at (map name cells) places) other
    ++ expand_steps kinds others steps (map name cells) (λ j. other (length own + j)) ≡
    map (renamed name) (expand_callable known callable (cells_at cells places) inner)
    ++ map (renamed name) (expand_steps kinds known steps cells (λ j. inner (length own + j))) =
    λ k. first k ++ rest k in
    both ∙ sym (map-append (renamed name) (expand_callable known callable (cells_at cells places) inner)
    (expand_steps kinds known steps cells (λ j. inner (length own + j))))

renames_after : {C D : Type 0} (name : C → D) (kinds : List (List Kind)) (known : List (Expands C)) (others : List (Expands D))
    (compounds : List Compound) → AllRename name kinds known others →
    AllRename name (inner_after kinds compounds) (expand_after kinds known compounds) (expand_after kinds others compounds)
renames_after name kinds known others [] all = all
renames_after name kinds known others (compound ∷ compounds) all =
    let one = renames_steps name kinds known others all compound.steps in
    renames_after name (kinds ++ inner_of_steps kinds compound.steps ∷ []) (known ++ expand_steps kinds known compound.steps ∷ [])
    (others ++ expand_steps kinds others compound.steps ∷ []) compounds
    (renames_push name kinds known others (inner_of_steps kinds compound.steps) (expand_steps kinds known compound.steps)
    (expand_steps kinds others compound.steps) all one)

-- the expansion of a callable on named cells is its expansion on the cells, named
pub expansion_renamed : {C D : Type 0} (name : C → D) (compounds : List Compound) (callable : Callable) (cells : List C) (inner : ℕ → C)
    (others : ℕ → D) → ((j : ℕ) → j < length (inner_kinds_of compounds callable) → others j ≡ name (inner j)) →
    expansion_of compounds callable (map name cells) others ≡ map (renamed name) (expansion_of compounds callable cells inner)
expansion_renamed name compounds callable cells inner others same =
    renames_callable name (inner_after [] compounds) (expand_after [] [] compounds) (expand_after [] [] compounds)
    (renames_after name [] [] [] compounds tt) callable cells inner others same

-- ---- an expansion is had from that on places

-- past the cells come the inner cells
pub at_place_inner : {C : Type 0} (cells : List C) (inner : ℕ → C) (j place : ℕ) → place ≡ length cells + j → at_place cells inner place ≡ inner j
at_place_inner [] inner j place is = ap inner (let same : place ≡ j = omega arith in same)
at_place_inner (cell ∷ cells) inner j zero is = absurd (omega arith)
at_place_inner (cell ∷ cells) inner j (suc place) is = at_place_inner cells inner j place (omega arith)

map_range : {C : Type 0} (f : ℕ → C) (start : ℕ) (cells : List C) (inner : ℕ → C) →
    ((n : ℕ) → n < length cells → f (start + n) ≡ at_place cells inner n) → map f (range_with_len start (length cells)) ≡ cells
map_range f start [] inner same = refl
map_range {C} f start (cell ∷ cells) inner same =
    let here : start ≡ start + 0 = omega arith in
    let first : f start ≡ cell = ap f here ∙ same 0 (omega arith) in
    let next : (n : ℕ) → start + 1 + n ≡ start + suc n = λ n. omega arith in
    let rest : map f (range_with_len (start + 1) (length cells)) ≡ cells =
    map_range f (start + 1) cells inner (λ n within. ap f (next n) ∙ same (suc n) (omega arith)) in
    λ k. first k ∷ rest k

-- the cells are at the places from 0
pub cells_at_places : {C : Type 0} (cells : List C) (inner : ℕ → C) → map (at_place cells inner) (range_with_len 0 (length cells)) ≡ cells
cells_at_places cells inner =
    let same : (n : ℕ) → 0 + n ≡ n = λ n. omega arith in
    map_range (at_place cells inner) 0 cells inner (λ n within. ap (at_place cells inner) (same n))

-- the expansion of a callable on cells is its expansion on places, with the cells put there
pub expansion_placed : {C : Type 0} (compounds : List Compound) (callable : Callable) (cells : List C) (inner : ℕ → C) →
    expansion_of compounds callable cells inner ≡
    map (renamed (at_place cells inner)) (on_places (expansion_of compounds callable) (length cells))
expansion_placed {C} compounds callable cells inner =
    ap (λ (l : List C). expansion_of compounds callable l inner) (sym (cells_at_places cells inner))
    ∙ expansion_renamed (at_place cells inner) compounds callable (range_with_len 0 (length cells)) (λ j. length cells + j) inner
    (λ j within. sym (at_place_inner cells inner j (length cells + j) refl))
