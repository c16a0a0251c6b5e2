-- What is at the places of the expansion of a compound.
use Rattle.std.proofs.Common.{◌≡◌, ℕ, zero, suc, ◌+◌, ◌-◌, ◌<◌, ◌≤◌, List, [], ◌∷◌, ◌++◌, length, take, map, get_or, set, Some, refl, sym, ap, subst, ◌∙◌, arith, append_assoc, append-nil}
use Rattle.std.proofs.lemmas.List.{take_more, take_more_set, map_push, map-append}
use Rattle.std.specs.Prelude.{All, slice_get}
use Rattle.std.specs.List.{range_with_len}
use Rattle.pw_procs.specs.Registry.{cells_of}
use Rattle.pw_decl.specs.declared.flat_call.FlatCall.{FlatCall}
use Rattle.pw_decl.specs.declared.flat_call.Flattened.{Flattened}
use Rattle.pw_decl.specs.declared.step.Callable.{Callable}
use Rattle.pw_decl.specs.declared.step.Callable.TheVariants as callables
use Rattle.pw_decl.specs.Compound.{Compound}
use Rattle.pw_decl.specs.Declaration.{Declared}
use Rattle.pw_decl.specs.Expansion.{Instance, at_place, instance_on, renamed, inner_of_callable, inner_after, inner_kinds_of, expand_callable, expand_after, expansion_of, on_places}
use Rattle.pw_decl.specs.inside.Held.{instances_of, IsBelow, AreCallsOf}
use Rattle.pw_decl.specs.inside.Flattening.{TakesSoMany, GainsCallable}
use Rattle.pw_decl.proofs.ExpansionLemmas.{instance_on_renamed, expansion_placed}
use Rattle.pw_decl.proofs.KeptLemmas.{some_is}

-- at a place of one of the cells is this cell
pub at_place_within : {C : Type 0} (cells : List C) (inner : ℕ → C) (place : ℕ) (d : C) → place < length cells →
    at_place cells inner place ≡ get_or cells place d
at_place_within [] inner place d there = absurd (omega arith)
at_place_within (cell ∷ cells) inner zero d there = refl
at_place_within (cell ∷ cells) inner (suc place) d there = at_place_within cells inner place d (omega arith)

-- past their end are the inner cells
pub at_place_past : {C : Type 0} (cells : List C) (inner : ℕ → C) (place : ℕ) → length cells ≤ place →
    at_place cells inner place ≡ inner (place - length cells)
at_place_past [] inner place past = ap inner (omega arith)
at_place_past (cell ∷ cells) inner zero past = absurd (omega arith)
at_place_past (cell ∷ cells) inner (suc place) past = at_place_past cells inner place (omega arith) ∙ ap inner (omega arith)

-- the cell at the next place is recorded
pub place_more : (f : ℕ → ℕ) (places placed : List ℕ) (n cell : ℕ) → n < length places → n < length placed →
    cell ≡ f (get_or places n 0) → take n placed ≡ map f (take n places) → take (n + 1) (set placed n cell) ≡ map f (take (n + 1) places)
place_more f places placed n cell here room is so_far =
    take_more_set placed n cell room
    ∙ ap (λ (x : List ℕ). x ++ cell ∷ []) so_far
    ∙ ap (λ (x : ℕ). map f (take n places) ++ x ∷ []) is
    ∙ sym (ap (map f) (take_more places n 0 here) ∙ map_push f (take n places) (get_or places n 0))

range_suc : (a n j : ℕ) → a + n ≡ j → range_with_len a (suc n) ≡ range_with_len a n ++ j ∷ []
range_suc a zero j is = ap (λ (x : ℕ). x ∷ []) (omega (arith, is))
range_suc a (suc n) j is = ap (λ (l : List ℕ). a ∷ l) (range_suc (a + 1) n j (omega (arith, is)))

-- one more number
pub range_more : (a n j : ℕ) → a + n ≡ j → range_with_len a (n + 1) ≡ range_with_len a n ++ j ∷ []
range_more a n j is =
    let next : suc n ≡ n + 1 = omega arith in
    subst (λ (m : ℕ). range_with_len a m ≡ range_with_len a n ++ j ∷ []) next (range_suc a n j is)

-- ---- instances of calls

-- a call more has its instance more
pub instances_push : (calls : List FlatCall) (call : FlatCall) →
    instances_of (calls ++ call ∷ []) ≡ instances_of calls ++ instance_on call.procedure (cells_of call.places)
instances_push [] call = append-nil (instance_on call.procedure (cells_of call.places))
instances_push (first ∷ calls) call =
    ap (λ (l : List (Instance ℕ)). instance_on first.procedure (cells_of first.places) ++ l) (instances_push calls call)
    ∙ sym (append_assoc (instance_on first.procedure (cells_of first.places)) (instances_of calls) (instance_on call.procedure (cells_of call.places)))

-- the next call is added, over the cells at its places
pub calls_more : (f : ℕ → ℕ) (start added calls : List FlatCall) (n : ℕ) (call placed : FlatCall) → n < length calls →
    call ≡ get_or calls n call → placed.procedure ≡ call.procedure → cells_of placed.places ≡ map f (cells_of call.places) →
    instances_of added ≡ instances_of start ++ map (renamed f) (instances_of (take n calls)) →
    instances_of (added ++ placed ∷ []) ≡ instances_of start ++ map (renamed f) (instances_of (take (n + 1) calls))
calls_more f start added calls n call placed here read procedure cells so_far =
    let old = instances_of (take n calls) in
    let next = instance_on call.procedure (cells_of call.places) in
    let last : instance_on placed.procedure (cells_of placed.places) ≡ map (renamed f) next =
    rw (procedure, cells) (instance_on_renamed f call.procedure (cells_of call.places)) in
    let all : map (renamed f) (instances_of (take (n + 1) calls)) ≡ map (renamed f) old ++ map (renamed f) next =
    ap (λ (l : List FlatCall). map (renamed f) (instances_of l)) (take_more calls n call here ∙ ap (λ (x : FlatCall). take n calls ++ x ∷ []) (sym read))
    ∙ ap (map (renamed f)) (instances_push (take n calls) call)
    ∙ map-append (renamed f) old next in
    instances_push added placed
    ∙ ap (λ (l : List (Instance ℕ)). l ++ instance_on placed.procedure (cells_of placed.places)) so_far
    ∙ ap (λ (l : List (Instance ℕ)). (instances_of start ++ map (renamed f) old) ++ l) last
    ∙ append_assoc (instances_of start) (map (renamed f) old) (map (renamed f) next)
    ∙ ap (λ (l : List (Instance ℕ)). instances_of start ++ l) (sym all)

-- ---- a callable on cells

-- a compound that takes `count` cells has `count` parameters
pub taken : (d : Declared) (callable : Callable) (number count : ℕ) (compound : Compound) → callable ≡ callables.Compound number →
    TakesSoMany d callable count → slice_get d.compounds number ≡ Some compound → length compound.parameters ≡ count
taken d callable number count compound is takes at =
    let (kinds, many, accepts) = rw is at takes in
    let (found, there, same) = accepts in
    sym (ap length (same ∙ ap (λ (c : Compound). c.parameters) (some_is found compound (sym there ∙ at)))) ∙ many

-- the places of calls, counted from a first inner cell, stay in range
pub places_fit : (calls : List FlatCall) (first count inner : ℕ) → first ≤ 264 → count ≤ 9 → inner ≤ 256 → All (IsBelow (count + inner)) calls →
    All (λ call. All (λ place. first + place ≤ 4294967295) (cells_of call.places)) calls
places_fit calls first count inner few taken made below n d here place e there = omega (arith, few, taken, made, below n d here place e there)

-- the calls of a compound over cells are its expansion on them
pub placed_calls : (compounds : List Compound) (callable : Callable) (number : ℕ) (calls : List FlatCall) (cells : List ℕ) (first : ℕ) →
    callable ≡ callables.Compound number → (are : AreCallsOf compounds number calls) → length are.compound.parameters ≡ length cells →
    map (renamed (at_place cells (λ j. first + j))) (instances_of calls)
    ≡ expand_callable (expand_after [] [] compounds) callable cells (λ j. first + j)
placed_calls compounds callable number calls cells first is are many =
    ap (map (renamed (at_place cells (λ j. first + j)))) (are.calls_are ∙ ap (on_places (expansion_of compounds (callables.Compound number))) many)
    ∙ sym (expansion_placed compounds (callables.Compound number) cells (λ j. first + j))
    ∙ ap (λ (x : Callable). expand_callable (expand_after [] [] compounds) x cells (λ j. first + j)) (sym is)

-- what is kept has gained the expansion of a procedure
pub gains_stored : {A : Type 0} (compounds : List Compound) (callable : Callable) (number : ℕ) (call : FlatCall) (first : ℕ) (old new : Flattened A) →
    callable ≡ callables.Stored number → call.procedure ≡ number → new.calls.items ≡ old.calls.items ++ call ∷ [] →
    new.inner.items ≡ old.inner.items → GainsCallable compounds callable (cells_of call.places) first old new
gains_stored compounds callable number call first old new is procedure calls inner =
    record {
      calls = ap instances_of calls ∙ instances_push old.calls.items call
          ∙ rw (is, procedure) refl;
      inner = inner ∙ rw is (sym (append-nil old.inner.items));
    }

-- and the expansion of a compound
pub gains_compound : {A : Type 0} (compounds : List Compound) (callable : Callable) (number : ℕ) (calls : List FlatCall) (cells : List ℕ) (first : ℕ)
    (old new : Flattened A) → callable ≡ callables.Compound number → (are : AreCallsOf compounds number calls) →
    length are.compound.parameters ≡ length cells →
    instances_of new.calls.items ≡ instances_of old.calls.items ++ map (renamed (at_place cells (λ j. first + j))) (instances_of calls) →
    new.inner.items ≡ old.inner.items ++ inner_kinds_of compounds (callables.Compound number) → GainsCallable compounds callable cells first old new
gains_compound compounds callable number calls cells first old new is are many added inner =
    record {
      calls = added ∙ ap (λ (l : List (Instance ℕ)). instances_of old.calls.items ++ l) (placed_calls compounds callable number calls cells first is are many);
      inner = inner ∙ ap (λ (x : Callable). old.inner.items ++ inner_of_callable (inner_after [] compounds) x) (sym is);
    }
