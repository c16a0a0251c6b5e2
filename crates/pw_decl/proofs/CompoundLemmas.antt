-- What is true of compounds as their lines are read.
use Rattle.std.proofs.Common.{◌≡◌, Bool, ℕ, suc, ◌+◌, ◌<◌, ◌≤◌, List, [], ◌∷◌, ◌++◌, Option, Some, None, length, take, get_or, set, refl, sym, ap, ◌∙◌, arith, append_assoc}
use Rattle.std.specs.Prelude.{All, slice_get, is_some, IsSome, ◌≢◌, ◌⊎◌}
use Rattle.std.specs.Str.{bytes_eq}
use Rattle.std.proofs.Common.{subst, inl, inr, true, false, ◌↔◌, length-append, length-take, slice_index_or}
use Rattle.std.proofs.lemmas.Bool.{false≢true}
use Rattle.pw_kinds.proofs.Order.{true_both}
use Rattle.pw_procs.specs.Registering.{place_of_name}
use Rattle.pw_procs.specs.Procedure.{Procedure}
use Rattle.std.specs.List.{filter_map, list_all, cons_option, AllByRecursion, IsDistinct}
use Rattle.std.proofs.lemmas.List.{take_more, take_more_set}
use Rattle.std.proofs.lemmas.List.Elements.{filter_map-append, All-from_recursion}
use Rattle.std.proofs.lemmas.Option.{none-some, slice_get_read, slice_get_within, slice_get-get_or, get_or_from_slice_get}
use Rattle.pw_info.specs.declared.kind.Kind.TheVariants as cells
use Rattle.pw_procs.specs.Slots.{kind_in_slot}
use Rattle.pw_procs.specs.Signature.{input_slots_of, output_slot_of}
use Rattle.pw_decl.specs.declared.step.Callable.TheVariants as callables
use Rattle.pw_decl.proofs.CompoundLaws.{sum_with_none, size_push, well_with_local, well_with_call}
use Rattle.pw_decl.proofs.Places.{place_of_name-lt}
use Rattle.pw_info.specs.declared.kind.Kind.{Kind}
use Rattle.std.proofs.lemmas.List.{append-nil, length-map, map_push}
use Rattle.std.specs.String.{string_bytes}
use Rattle.pw_procs.specs.declared.arguments.Arguments.{Arguments}
use Rattle.pw_procs.specs.Registry.{cells_of}
use Rattle.pw_decl.specs.declared.step.Callable.{Callable}
use Rattle.pw_decl.specs.declared.step.Step.TheVariants as kept
use Rattle.pw_decl.specs.declared.compound.OpenCompound.{OpenCompound as OpenCompoundType}
use Rattle.pw_decl.specs.Compound.{Compound, Step, NewCell, CallOn, new_kinds, cell_kinds, with_step, kinds_at, Size, no_size, sum_of_sizes, size_of_local, size_of_steps, size_of_callable, sizes_of, AcceptsKinds, IsTooLarge}
use Rattle.pw_decl.specs.Declaration.{Declared, OpenCompound, Inside, Outside, Local, Begin, Call, NamesKind, NameKinds, callable_named, parameter_names, parameter_kinds, begun, places_of, with_local, with_call, Makes}
use Rattle.pw_decl.specs.Prelude.{prelude_compounds}
use Rattle.pw_decl.proofs.ParameterLemmas.{HaveKinds}
use Rattle.pw_decl.specs.Limits.{most_inner_cells, most_compounds, most_parameters}
use Rattle.pw_decl.specs.WellDeclared.{IsWellDeclared, IsWellOpen}
use Rattle.pw_decl.specs.Faults.{is_cell_of, HasUnknown, HasWrongArguments, IsOneTooMany, OutgrowsWith, Duplicate, Unknown, Wrong, TooMany}
use Rattle.pw_decl.specs.declared.decl_fault.DeclFaultKind.TheVariants.{DuplicateName, UnknownName, WrongArguments, Limit}
use Rattle.pw_decl.specs.inside.SentenceFaults.{IsFaultless, IsToldOf}
use Rattle.pw_decl.specs.inside.Held.{compound_of, size_of, step_of, steps_of}
use Rattle.pw_decl.specs.inside.Opened.{open_of, IsBegun, IsGrown, IsOpen}

-- ---- the kinds at places

-- the kind at the next place is recorded
pub kinds_more : (kinds given : List Kind) (places : List ℕ) (n : ℕ) (kind : Kind) → n < length places → n < length given →
    All (λ place. place < length kinds) places → kind ≡ get_or kinds (get_or places n 0) kind → take n given ≡ kinds_at kinds (take n places) →
    take (n + 1) (set given n kind) ≡ kinds_at kinds (take (n + 1) places)
kinds_more kinds given places n kind here room there read so_far =
    let place = get_or places n 0 in
    let found : slice_get kinds place ≡ Some kind = slice_get_read kinds (length kinds) place kind refl (there n 0 here) read in
    let last : kinds_at kinds (place ∷ []) ≡ kind ∷ [] = rw found refl in
    take_more_set given n kind room
    ∙ ap (λ (x : List Kind). x ++ kind ∷ []) so_far
    ∙ sym (ap (kinds_at kinds) (take_more places n 0 here)
    ∙ filter_map-append (slice_get kinds) (take n places) (place ∷ [])
    ∙ ap (λ (x : List Kind). kinds_at kinds (take n places) ++ x) last)

-- ---- the kinds of cells

new_kinds-append : (steps more : List Step) → new_kinds (steps ++ more) ≡ new_kinds steps ++ new_kinds more
new_kinds-append [] more = refl
new_kinds-append (NewCell kind ∷ steps) more = ap (λ (x : List Kind). kind ∷ x) (new_kinds-append steps more)
new_kinds-append (CallOn callable places ∷ steps) more = new_kinds-append steps more

-- the cells with one more private one
pub cell_kinds-local : (compound : Compound) (kind : Kind) → cell_kinds (with_step compound (NewCell kind)) ≡ cell_kinds compound ++ kind ∷ []
cell_kinds-local compound kind =
    ap (λ (x : List Kind). compound.parameters ++ x) (new_kinds-append compound.steps (NewCell kind ∷ []))
    ∙ sym (append_assoc compound.parameters (new_kinds compound.steps) (kind ∷ []))

-- a call adds no cell
pub cell_kinds-call : (compound : Compound) (callable : Callable) (places : List ℕ) → cell_kinds (with_step compound (CallOn callable places)) ≡ cell_kinds compound
cell_kinds-call compound callable places =
    ap (λ (x : List Kind). compound.parameters ++ x) (new_kinds-append compound.steps (CallOn callable places ∷ []) ∙ append-nil (new_kinds compound.steps))

-- ---- from one open compound to the next

-- if all but lines, names, kinds and size stays, it has become this
pub grown_local : {A : Type 0} (old new : OpenCompoundType A) (name : List ℕ) (kind : Kind) →
    new.name ≡ old.name → new.names ≡ old.names ++ name ∷ [] → new.kinds.items ≡ old.kinds.items ++ kind ∷ [] →
    new.compound.parameters ≡ old.compound.parameters →
    new.compound.steps.items ≡ old.compound.steps.items ++ kept.Local kind ∷ [] →
    size_of new.compound.size ≡ sum_of_sizes (size_of old.compound.size) size_of_local →
    IsGrown old (with_local (open_of old) name kind) size_of_local new
grown_local old new name kind same names kinds parameters steps size = record {
  is = λ k. record {
    name = string_bytes (same k);
    names = names k;
    compound = record {
      parameters = (parameters k).items;
      steps = (ap steps_of steps ∙ map_push step_of old.compound.steps.items (kept.Local kind)) k;
    };
  };
  kinds = λ before. kinds ∙ ap (λ (x : List Kind). x ++ kind ∷ []) before ∙ sym (cell_kinds-local (compound_of old.compound) kind);
  size = size;
}

pub grown_call : {A : Type 0} (old new : OpenCompoundType A) (callable : Callable) (arguments : Arguments) (more : Size) →
    new.name ≡ old.name → new.names ≡ old.names → new.kinds ≡ old.kinds → new.compound.parameters ≡ old.compound.parameters →
    new.compound.steps.items ≡ old.compound.steps.items ++ kept.Call callable arguments ∷ [] →
    size_of new.compound.size ≡ sum_of_sizes (size_of old.compound.size) more →
    IsGrown old (with_call (open_of old) callable (cells_of arguments)) more new
grown_call old new callable arguments more same names kinds parameters steps size = record {
  is = λ k. record {
    name = string_bytes (same k);
    names = names k;
    compound = record {
      parameters = (parameters k).items;
      steps = (ap steps_of steps ∙ map_push step_of old.compound.steps.items (kept.Call callable arguments)) k;
    };
  };
  kinds = λ before. (λ k. (kinds k).items) ∙ before ∙ sym (cell_kinds-call (compound_of old.compound) callable (cells_of arguments));
  size = size;
}

-- ---- sizes

-- with one more private cell
pub sum_with_local : (instances inner_cells : ℕ) →
    record { instances = instances; inner_cells = inner_cells + 1 } ≡ sum_of_sizes (record { instances = instances; inner_cells = inner_cells }) size_of_local
sum_with_local instances inner_cells =
    let same : instances ≡ instances + 0 = omega arith in
    λ k. record { instances = same k; inner_cells = inner_cells + 1 }

-- each private cell is an inner cell
pub new_kinds_few : (sizes : List Size) (steps : List Step) → length (new_kinds steps) ≤ (size_of_steps sizes steps).inner_cells
new_kinds_few sizes [] = omega arith
new_kinds_few sizes (NewCell kind ∷ steps) = omega (arith, new_kinds_few sizes steps)
new_kinds_few sizes (CallOn callable places ∷ steps) = omega (arith, new_kinds_few sizes steps)

-- what has grown keeps what an open compound keeps
pub grown_open : {A : Type 0} (d : Declared) (old new : OpenCompoundType A) (opened : OpenCompound) (more : Size) → IsOpen d old → IsGrown old opened more new →
    IsWellOpen d opened →
    sum_of_sizes (size_of_steps (sizes_of d.compounds) (steps_of old.compound.steps.items)) more ≡ size_of_steps (sizes_of d.compounds) opened.compound.steps →
    IsOpen d new
grown_open d old new opened more was grown well size = record {
  well = subst (IsWellOpen d) (sym grown.is) well;
  kinds = grown.kinds was.kinds ∙ ap (λ (o : OpenCompound). cell_kinds o.compound) (sym grown.is);
  size =
      grown.size ∙ ap (λ (s : Size). sum_of_sizes s more) was.size ∙ size
      ∙ ap (λ (o : OpenCompound). size_of_steps (sizes_of d.compounds) o.compound.steps) (sym grown.is);
}

-- and if it has not grown
pub stays_open : {A : Type 0} (d : Declared) (old new : OpenCompoundType A) → IsOpen d old → IsGrown old (open_of old) no_size new → IsOpen d new
stays_open d old new was grown =
    grown_open d old new (open_of old) no_size was grown was.well (sum_with_none (size_of_steps (sizes_of d.compounds) (steps_of old.compound.steps.items)))

pub grown_open_local : {A : Type 0} (d : Declared) (old new : OpenCompoundType A) (name : List ℕ) (kind : Kind) → IsOpen d old →
    IsGrown old (with_local (open_of old) name kind) size_of_local new → (OutgrowsWith d (open_of old) size_of_local → ⊥) → IsOpen d new
grown_open_local d old new name kind was grown fits =
    grown_open d old new (with_local (open_of old) name kind) size_of_local was grown (well_with_local d (open_of old) name kind was.well fits)
    (sym (size_push (sizes_of d.compounds) (steps_of old.compound.steps.items) (NewCell kind)))

pub grown_open_call : {A : Type 0} (d : Declared) (old new : OpenCompoundType A) (callable : Callable) (places : List ℕ) (more : Size) → IsOpen d old →
    more ≡ size_of_callable (sizes_of d.compounds) callable → IsGrown old (with_call (open_of old) callable places) more new →
    All (λ place. place < length (cell_kinds (open_of old).compound)) places →
    AcceptsKinds d.procedures d.compounds callable (kinds_at (cell_kinds (open_of old).compound) places) →
    (OutgrowsWith d (open_of old) (size_of_callable (sizes_of d.compounds) callable) → ⊥) → IsOpen d new
grown_open_call d old new callable places more was is grown there accepts fits =
    grown_open d old new (with_call (open_of old) callable places) more was grown (well_with_call d (open_of old) callable places was.well there accepts fits)
    (ap (sum_of_sizes (size_of_steps (sizes_of d.compounds) (steps_of old.compound.steps.items))) is
    ∙ sym (size_push (sizes_of d.compounds) (steps_of old.compound.steps.items) (CallOn callable places)))

-- ---- how many cells

pub few_names : (d : Declared) (opened : OpenCompound) → IsWellOpen d opened → length opened.names ≤ 264
few_names d opened well =
    omega (arith, well.names, well.parameters, well.small.inner_cells, new_kinds_few (sizes_of d.compounds) opened.compound.steps, length-append opened.compound.parameters (new_kinds opened.compound.steps))

-- ---- what is reported for a private cell

not_either : {P Q : Type 0} → (P → ⊥) → (Q → ⊥) → P ⊎ Q → ⊥
not_either p q (inl holds) = p holds
not_either p q (inr holds) = q holds

pub faultless_local : (d : Declared) (opened : OpenCompound) (name word : List ℕ) (kind : Kind) → is_some (place_of_name opened.names name) ≡ false →
    NamesKind d word kind → (OutgrowsWith d opened size_of_local → ⊥) → IsFaultless (Inside d opened) (Local name word)
faultless_local d opened name word kind fresh named fits =
    (λ there. false≢true (sym fresh ∙ there), (λ none. none kind named, (λ wrong. wrong, (fits, tt))))

-- whether the name is there, by what a call found
pub name_found : (names : List (List ℕ)) (word name : List ℕ) (found : Option ℕ) (b : Bool) → found ≡ place_of_name names word → word ≡ name → is_some found ≡ b →
    is_some (place_of_name names name) ≡ b
name_found names word name found b is same there = sym (ap (λ (w : List ℕ). is_some (place_of_name names w)) same) ∙ sym (ap is_some is) ∙ there

pub local_duplicate : (d : Declared) (opened : OpenCompound) (name word : List ℕ) → is_some (place_of_name opened.names name) ≡ true →
    IsToldOf (Inside d opened) (Local name word) DuplicateName
local_duplicate d opened name word there = inr (Duplicate, inl (refl, there), refl)

pub local_unknown : (d : Declared) (opened : OpenCompound) (name word : List ℕ) → is_some (place_of_name opened.names name) ≡ false →
    ((kind : Kind) → NamesKind d word kind → ⊥) → IsToldOf (Inside d opened) (Local name word) UnknownName
local_unknown d opened name word fresh none = inr (Unknown, inr (λ there. false≢true (sym fresh ∙ there), inl (refl, none)), refl)

pub local_limit : (d : Declared) (opened : OpenCompound) (name word : List ℕ) (kind : Kind) → is_some (place_of_name opened.names name) ≡ false →
    NamesKind d word kind → OutgrowsWith d opened size_of_local → IsToldOf (Inside d opened) (Local name word) Limit
local_limit d opened name word kind fresh named large =
    inr (TooMany, inr (λ there. false≢true (sym fresh ∙ there), inr (λ none. none kind named, inr (λ wrong. wrong, inl (refl, large)))), refl)

-- whether there is room for a private cell
pub fits_local : {A : Type 0} (d : Declared) (old : OpenCompoundType A) → IsOpen d old → old.compound.size.inner_cells < most_inner_cells →
    OutgrowsWith d (open_of old) size_of_local → ⊥
fits_local d old was room (inl large) = omega (arith, was.well.small.instances)
fits_local d old was room (inr large) = omega (arith, ap (λ (s : Size). s.inner_cells) was.size)

pub full_local : {A : Type 0} (d : Declared) (old : OpenCompoundType A) → IsOpen d old → most_inner_cells ≤ old.compound.size.inner_cells →
    OutgrowsWith d (open_of old) size_of_local
full_local d old was full = inr (omega (arith, ap (λ (s : Size). s.inner_cells) was.size))

-- ---- what is reported for a compound that begins

pub faultless_begin : (d : Declared) (name : List ℕ) (parameters : List (List ℕ)) → callable_named d name ≡ None → IsDistinct bytes_eq (parameter_names parameters) →
    HaveKinds d (parameter_kinds parameters) → parameters ≢ [] → (prelude_compounds + most_compounds ≤ length d.compounds → ⊥) →
    length (parameter_names parameters) ≤ most_parameters → IsFaultless (Outside d) (Begin name parameters)
faultless_begin d name parameters fresh differ known some room few = (
  not_either (λ there. false≢true (sym (ap is_some fresh) ∙ there)) (λ equal. equal differ),
  (λ none. none known.0 known.1, (some, (not_either room (λ many. omega arith), tt))),
)

pub begin_duplicate : (d : Declared) (name : List ℕ) (parameters : List (List ℕ)) →
    IsSome (callable_named d name) ⊎ (IsDistinct bytes_eq (parameter_names parameters) → ⊥) → IsToldOf (Outside d) (Begin name parameters) DuplicateName
begin_duplicate d name parameters there = inr (Duplicate, inl (refl, there), refl)

pub begin_unknown : (d : Declared) (name : List ℕ) (parameters : List (List ℕ)) → callable_named d name ≡ None → IsDistinct bytes_eq (parameter_names parameters) →
    (HaveKinds d (parameter_kinds parameters) → ⊥) → IsToldOf (Outside d) (Begin name parameters) UnknownName
begin_unknown d name parameters fresh differ none =
    inr (
      Unknown,
      inr (
        not_either (λ there. false≢true (sym (ap is_some fresh) ∙ there)) (λ equal. equal differ),
        inl (refl, λ kinds named. none (kinds, named)),
      ),
      refl,
    )

pub begin_wrong : (d : Declared) (name : List ℕ) (parameters : List (List ℕ)) → callable_named d name ≡ None → IsDistinct bytes_eq (parameter_names parameters) →
    HaveKinds d (parameter_kinds parameters) → parameters ≡ [] → IsToldOf (Outside d) (Begin name parameters) WrongArguments
begin_wrong d name parameters fresh differ known none =
    inr (
      Wrong,
      inr (
        not_either (λ there. false≢true (sym (ap is_some fresh) ∙ there)) (λ equal. equal differ),
        inr (λ unknown. unknown known.0 known.1, inl (refl, none)),
      ),
      refl,
    )

pub begin_limit : (d : Declared) (name : List ℕ) (parameters : List (List ℕ)) → callable_named d name ≡ None → IsDistinct bytes_eq (parameter_names parameters) →
    HaveKinds d (parameter_kinds parameters) → parameters ≢ [] →
    (prelude_compounds + most_compounds ≤ length d.compounds) ⊎ (most_parameters < length (parameter_names parameters)) → IsToldOf (Outside d) (Begin name parameters) Limit
begin_limit d name parameters fresh differ known some large =
    inr (
      TooMany,
      inr (
        not_either (λ there. false≢true (sym (ap is_some fresh) ∙ there)) (λ equal. equal differ),
        inr (λ unknown. unknown known.0 known.1, inr (some, inl (refl, large))),
      ),
      refl,
    )

-- ---- a compound that has begun

-- as many kinds as words that name them
pub length-named : (d : Declared) (words : List (List ℕ)) (kinds : List Kind) → NameKinds d words kinds → length words ≡ length kinds
length-named d [] [] named = refl
length-named d [] (kind ∷ kinds) named = absurd named
length-named d (word ∷ words) [] named = absurd named
length-named d (word ∷ words) (kind ∷ kinds) named = ap suc (length-named d words kinds named.1)

-- as many kinds as names
pub length-parameters : (words : List (List ℕ)) → length (parameter_names words) ≡ length (parameter_kinds words)
length-parameters [] = refl
length-parameters (name ∷ []) = refl
length-parameters (name ∷ kind ∷ words) = ap suc (length-parameters words)

-- with these names and no lines, it has begun
pub begun_where : {A : Type 0} (opened : OpenCompoundType A) (name : List ℕ) (names : List (List ℕ)) →
    string_bytes opened.name ≡ name → opened.names ≡ names → steps_of opened.compound.steps.items ≡ [] →
    open_of opened ≡ begun name names opened.compound.parameters.items
begun_where opened name names named all none = rw (named, all, none) refl

pub begun_open : {A : Type 0} (d : Declared) (name : List ℕ) (parameters : List (List ℕ)) (opened : OpenCompoundType A) → IsBegun d name parameters opened →
    callable_named d name ≡ None → (prelude_compounds + most_compounds ≤ length d.compounds → ⊥) → length (parameter_names parameters) ≤ most_parameters → IsOpen d opened
begun_open d name parameters opened is_begun fresh room few =
    let kinds = opened.compound.parameters.items in
    let none : steps_of opened.compound.steps.items ≡ [] = ap (λ (o : OpenCompound). o.compound.steps) is_begun.is in
    let count : length (parameter_names parameters) ≡ length kinds = length-parameters parameters ∙ length-named d (parameter_kinds parameters) kinds is_begun.named in
    let well : IsWellOpen d (begun name (parameter_names parameters) kinds) =
    record {
      room = omega arith;
      fresh = fresh;
      names = count ∙ sym (ap length (append-nil kinds));
      parameters = omega arith;
      steps = tt;
      small = record { instances = omega arith; inner_cells = omega arith };
    } in
    record {
      well = subst (IsWellOpen d) (sym is_begun.is) well;
      kinds = is_begun.kinds ∙ sym (append-nil kinds) ∙ ap (λ (x : List Step). kinds ++ new_kinds x) (sym none);
      size = is_begun.size ∙ ap (size_of_steps (sizes_of d.compounds)) (sym none);
    }

pub begun_made : {A : Type 0} (d : Declared) (name : List ℕ) (parameters : List (List ℕ)) (opened : OpenCompoundType A) → IsBegun d name parameters opened →
    Makes (Outside d) (Begin name parameters) (Inside d (open_of opened))
begun_made d name parameters opened is_begun = (opened.compound.parameters.items, is_begun.named, ap (Inside d) is_begun.is)

-- ---- the places of the cells of a call

there_next : (n : ℕ) (o : Option ℕ) (rest : List ℕ) → ((place : ℕ) → o ≡ Some place → place < n) → AllByRecursion (λ place. place < n) rest →
    AllByRecursion (λ place. place < n) (cons_option o rest)
there_next n None rest here later = later
there_next n (Some place) rest here later = (here place refl, later)

-- each place that words name is there
places_within : (names : List (List ℕ)) (words : List (List ℕ)) → AllByRecursion (λ place. place < length names) (filter_map (place_of_name names) words)
places_within names [] = tt
places_within names (word ∷ words) =
    there_next (length names) (place_of_name names word) (filter_map (place_of_name names) words) (place_of_name-lt names word) (places_within names words)

pub places_there : (names words : List (List ℕ)) (places : List ℕ) (kinds : List Kind) → places ≡ filter_map (place_of_name names) words → length names ≡ length kinds →
    All (λ place. place < length kinds) places
places_there names words places kinds is same =
    All-from_recursion (λ place. place < length kinds) places
    (subst (λ (x : List ℕ). AllByRecursion (λ place. place < length kinds) x) (sym is)
    (subst (λ (n : ℕ). AllByRecursion (λ place. place < n) (filter_map (place_of_name names) words)) same (places_within names words)))

length-some : {Y : Type 0} (o : Option Y) (rest : List Y) → is_some o ≡ true → length (cons_option o rest) ≡ suc (length rest)
length-some None rest there = absurd (false≢true there)
length-some (Some y) rest there = refl

-- if each is found, there are as many
length-found : {X Y : Type 0} (f : X → Option Y) (xs : List X) → list_all (λ x. is_some (f x)) xs ≡ true → length (filter_map f xs) ≡ length xs
length-found f [] all = refl
length-found f (x ∷ xs) all =
    let both = true_both (is_some (f x)) (list_all (λ y. is_some (f y)) xs) all in
    length-some (f x) (filter_map f xs) both.0 ∙ ap suc (length-found f xs both.1)

length-at : (kinds : List Kind) (places : List ℕ) → AllByRecursion (λ place. place < length kinds) places → length (kinds_at kinds places) ≡ length places
length-at kinds [] there = refl
length-at kinds (place ∷ places) (here, later) =
    let found = slice_get-get_or kinds place cells.Interval here in
    length-some (slice_get kinds place) (kinds_at kinds places) (ap is_some found) ∙ ap suc (length-at kinds places later)

-- no callable accepts more than nine cells
few_accepted : (d : Declared) (callable : Callable) (kinds : List Kind) → IsWellDeclared d → AcceptsKinds d.procedures d.compounds callable kinds → length kinds ≤ 9
few_accepted d (callables.Stored number) kinds well accepts =
    let signature = accepts.0.signature in
    let count = ap length accepts.2.1 in
    omega (arith, count, length-map (input_slots_of signature ++ output_slot_of signature ∷ []) (kind_in_slot accepts.2.0), length-append (input_slots_of signature) (output_slot_of signature ∷ []), length-take signature.count signature.slots, signature.shape.most)
few_accepted d (callables.Compound number) kinds well accepts =
    let few = well.few number accepts.0 (slice_get_within d.compounds number accepts.0 accepts.1) in
    let same : length (slice_index_or d.compounds number accepts.0).parameters ≡ length accepts.0.parameters =
    ap (λ (x : Compound). length x.parameters) (get_or_from_slice_get d.compounds number accepts.0 accepts.0 accepts.1) in
    omega (arith, few, same, ap length accepts.2)

pub too_many : (d : Declared) (opened : OpenCompound) (words : List (List ℕ)) (callable : Callable) → IsWellDeclared d → IsWellOpen d opened →
    list_all (is_cell_of opened) words ≡ true → 9 < length words →
    AcceptsKinds d.procedures d.compounds callable (kinds_at (cell_kinds opened.compound) (places_of opened words)) → ⊥
too_many d opened words callable well is_open all many accepts =
    let within = subst (λ (n : ℕ). AllByRecursion (λ place. place < n) (places_of opened words)) is_open.names (places_within opened.names words) in
    let count = length-at (cell_kinds opened.compound) (places_of opened words) within ∙ length-found (place_of_name opened.names) words all in
    let few = few_accepted d callable (kinds_at (cell_kinds opened.compound) (places_of opened words)) well accepts in
    omega (arith, count, few)

pub accepts_same : (procedures : List Procedure) (compounds : List Compound) (callable : Callable) (kinds others : List Kind) (places more : List ℕ) → kinds ≡ others → places ≡ more →
    AcceptsKinds procedures compounds callable (kinds_at kinds places) ↔ AcceptsKinds procedures compounds callable (kinds_at others more)
accepts_same procedures compounds callable kinds others places more p q =
    let e : kinds_at kinds places ≡ kinds_at others more = λ k. kinds_at (p k) (q k) in
    (subst (AcceptsKinds procedures compounds callable) e, subst (AcceptsKinds procedures compounds callable) (sym e))

pub large_same : (a b c d : Size) → a ≡ b → c ≡ d → IsTooLarge (sum_of_sizes a c) ↔ IsTooLarge (sum_of_sizes b d)
large_same a b c d p q =
    let e : sum_of_sizes a c ≡ sum_of_sizes b d = λ k. sum_of_sizes (p k) (q k) in
    (subst IsTooLarge e, subst IsTooLarge (sym e))

-- ---- what is reported for a call

one_callable : (a b : Callable) (o : Option Callable) → o ≡ Some a → o ≡ Some b → a ≡ b
one_callable a b o p q = let e : Some a ≡ Some b = sym p ∙ q in cc

not_unknown : (d : Declared) (opened : OpenCompound) (word : List ℕ) (words : List (List ℕ)) (callable : Callable) → callable_named d word ≡ Some callable →
    list_all (is_cell_of opened) words ≡ true → HasUnknown (Inside d opened) (Call word words) → ⊥
not_unknown d opened word words callable named all (inl none) = none-some callable (sym none ∙ named)
not_unknown d opened word words callable named all (inr not) = false≢true (sym not ∙ all)

not_wrong : (d : Declared) (opened : OpenCompound) (word : List ℕ) (words : List (List ℕ)) (callable : Callable) → callable_named d word ≡ Some callable →
    AcceptsKinds d.procedures d.compounds callable (kinds_at (cell_kinds opened.compound) (places_of opened words)) → HasWrongArguments (Inside d opened) (Call word words) → ⊥
not_wrong d opened word words callable named accepts (other, at, none) =
    none (subst (λ (x : Callable). AcceptsKinds d.procedures d.compounds x (kinds_at (cell_kinds opened.compound) (places_of opened words)))
    (one_callable callable other (callable_named d word) named at) accepts)

pub faultless_call : (d : Declared) (opened : OpenCompound) (word : List ℕ) (words : List (List ℕ)) (callable : Callable) → callable_named d word ≡ Some callable →
    list_all (is_cell_of opened) words ≡ true → AcceptsKinds d.procedures d.compounds callable (kinds_at (cell_kinds opened.compound) (places_of opened words)) →
    (OutgrowsWith d opened (size_of_callable (sizes_of d.compounds) callable) → ⊥) → IsFaultless (Inside d opened) (Call word words)
faultless_call d opened word words callable named all accepts fits =
    (λ x. x, (not_unknown d opened word words callable named all, (not_wrong d opened word words callable named accepts, (many, tt))))
  where
    many : IsOneTooMany (Inside d opened) (Call word words) → ⊥
    many (other, at, large) = fits (subst (λ (x : Callable). OutgrowsWith d opened (size_of_callable (sizes_of d.compounds) x)) (sym (one_callable callable other (callable_named d word) named at)) large)

pub call_unknown : (d : Declared) (opened : OpenCompound) (word : List ℕ) (words : List (List ℕ)) → list_all (is_cell_of opened) words ≡ false →
    IsToldOf (Inside d opened) (Call word words) UnknownName
call_unknown d opened word words not = inr (Unknown, inr (λ x. x, inl (refl, inr not)), refl)

pub call_wrong : (d : Declared) (opened : OpenCompound) (word : List ℕ) (words : List (List ℕ)) (callable : Callable) → callable_named d word ≡ Some callable →
    list_all (is_cell_of opened) words ≡ true →
    (AcceptsKinds d.procedures d.compounds callable (kinds_at (cell_kinds opened.compound) (places_of opened words)) → ⊥) → IsToldOf (Inside d opened) (Call word words) WrongArguments
call_wrong d opened word words callable named all none =
    inr (Wrong, inr (λ x. x, inr (not_unknown d opened word words callable named all, inl (refl, (callable, named, none)))), refl)

pub call_limit : (d : Declared) (opened : OpenCompound) (word : List ℕ) (words : List (List ℕ)) (callable : Callable) → callable_named d word ≡ Some callable →
    list_all (is_cell_of opened) words ≡ true → AcceptsKinds d.procedures d.compounds callable (kinds_at (cell_kinds opened.compound) (places_of opened words)) →
    OutgrowsWith d opened (size_of_callable (sizes_of d.compounds) callable) → IsToldOf (Inside d opened) (Call word words) Limit
call_limit d opened word words callable named all accepts large =
    inr (TooMany, inr (λ x. x, inr (not_unknown d opened word words callable named all, inr (not_wrong d opened word words callable named accepts, inl (refl, (callable, named, large))))), refl)
