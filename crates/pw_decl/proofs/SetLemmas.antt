-- The members of set kinds by their numbers, and the kinds by their names.
use Rattle.std.proofs.Common.{◌≡◌, ℕ, zero, suc, ◌+◌, ◌<◌, ◌≤◌, true, false, List, [], ◌∷◌, ◌++◌, Option, Some, None, length, get_or, codes, refl, sym, subst, ap, ◌∙◌, inl, inr, arith}
use Rattle.std.specs.Prelude.{Bool, All, IfSome, IfNone, is_some, slice_index_or}
use Rattle.std.specs.List.{position_from, AllByRecursion, IsDistinct}
use Rattle.std.specs.Option.{option_map}
use Rattle.std.specs.Str.{bytes_eq}
use Rattle.std.proofs.lemmas.Bool.{cases_Bool}
use Rattle.std.proofs.lemmas.List.{get_or_past}
use Rattle.std.proofs.lemmas.List.Elements.{All-from_recursion, All-weaker}
use Rattle.std.proofs.lemmas.Option.{none-some, slice_get_read, get_or_from_slice_get}
use Rattle.pw_kinds.specs.Places.{IsSize}
use Rattle.pw_info.specs.declared.kind.Kind.{Kind}
use Rattle.pw_info.specs.declared.kind.Kind.TheVariants as kinds
use Rattle.pw_info.specs.Name.{IsName, is_name, is_reserved}
use Rattle.pw_info.specs.SetNames.{AreNames, IsNamed}
use Rattle.pw_info.proofs.NameTests.{passed}
use Rattle.pw_procs.specs.Registering.{place_of_name}
use Rattle.pw_procs.specs.Procedure.{Procedure}
use Rattle.pw_decl.specs.Declaration.{Declared, nothing_declared, built_in_sets, built_in_members, built_in_kind_names, kind_names, members_of, NamesKind}

-- ---- the members of set kinds

-- if each word passes the test and no two are equal, they are the names of a set's members
tested : (names : List (List ℕ)) → AllByRecursion (λ word. is_name word ≡ true) names → IsDistinct bytes_eq names → AreNames names
tested names named differ =
    record {
      each = All-weaker (λ word. is_name word ≡ true) IsName passed names (All-from_recursion (λ word. is_name word ≡ true) names named);
      differ = differ;
    }

-- the members of the sets that are built in have names
pub built_in_named : (d : Declared) (set : ℕ) → set < 2 → AreNames (members_of d set)
unfolding is_name is_reserved IsDistinct
built_in_named d zero few = tested (codes "false" ∷ codes "true" ∷ []) (refl, (refl, tt)) ((refl, tt), (tt, tt))
built_in_named d (suc zero) few = tested (codes "neg" ∷ codes "zero" ∷ codes "pos" ∷ []) (refl, (refl, (refl, tt))) ((refl, (refl, tt)), ((refl, tt), (tt, tt)))
built_in_named d (suc (suc set)) few = absurd (omega arith)

-- before a set is declared there are no other members
pub nothing_named : (procedures : List Procedure) (set : ℕ) → AreNames (members_of (nothing_declared procedures) set)
unfolding IsDistinct
nothing_named procedures zero = built_in_named (nothing_declared procedures) zero (omega arith)
nothing_named procedures (suc zero) = built_in_named (nothing_declared procedures) (suc zero) (omega arith)
nothing_named procedures (suc (suc set)) = tested [] tt tt

-- the members of sets have names also with one more set
pub named_push : (sets : List (List (List ℕ))) (members : List (List ℕ)) → ((set : ℕ) → AreNames (slice_index_or sets set [])) → AreNames members →
    (set : ℕ) → AreNames (slice_index_or (sets ++ members ∷ []) set [])
named_push [] members named new zero = new
named_push [] members named new (suc set) = named zero
named_push (first ∷ sets) members named new zero = named zero
named_push (first ∷ sets) members named new (suc set) = named_push sets members (λ n. named (suc n)) new set

-- a set that has members keeps them as sets are added
members_stay : (sets more : List (List (List ℕ))) (set size : ℕ) → 2 ≤ size → length (slice_index_or sets set []) ≡ size →
    length (slice_index_or (sets ++ more) set []) ≡ size
members_stay [] more set size some e = absurd (omega arith)
members_stay (first ∷ sets) more zero size some e = e
members_stay (first ∷ sets) more (suc set) size some e = members_stay sets more set size some e

-- a kind stays named as sets are added
pub named_stays : (sets more : List (List (List ℕ))) (kind : Kind) → IsNamed (λ set. slice_index_or sets set []) kind →
    IsNamed (λ set. slice_index_or (sets ++ more) set []) kind
named_stays sets more kinds.Interval named = tt
named_stays sets more (kinds.Members set) named = members_stay sets more set.number set.size set.sized.0 named
named_stays sets more kinds.Exact named = tt

-- the declared sets follow the two that are built in
pub members_read : (d : Declared) (sets : List (List (List ℕ))) (set place : ℕ) (names : List (List ℕ)) → sets ≡ d.sets → set ≡ place + 2 →
    place < length sets → names ≡ get_or sets place names → members_of d set ≡ names
members_read d sets set place names declared follows there read =
    let number : set ≡ suc (suc place) = omega arith in
    rw (number, ← declared) (get_or_from_slice_get sets place names [] (slice_get_read sets (length sets) place names refl there read))

-- past them there are no members
pub members_past : (d : Declared) (sets : List (List (List ℕ))) (set : ℕ) → sets ≡ d.sets → length sets + 2 ≤ set → members_of d set ≡ []
members_past d sets set declared past = get_or_past (built_in_sets ++ d.sets) set [] (omega (arith, ap length declared))

-- each declared set has 2 to 64 members
pub size_read : (sets : List (List (List ℕ))) (place : ℕ) (names : List (List ℕ)) → All (λ names. IsSize (length names)) sets → place < length sets →
    names ≡ get_or sets place names → IsSize (length names)
size_read sets place names sizes there read = subst (λ (names : List (List ℕ)). IsSize (length names)) (sym read) (sizes place names there)

-- ---- the places of words in one list of names after another

-- counted from further on, each place is as much further on
position_shifted : (t : List ℕ → Bool) (i k : ℕ) (names : List (List ℕ)) → position_from t (i + k) names ≡ option_map (λ n. n + k) (position_from t i names)
position_shifted t i k [] = refl
position_shifted t i k (name ∷ names) = elim (cases_Bool (t name)) [
  | inl here ↦ rw here refl
  | inr apart ↦
      let next : i + k + 1 ≡ i + 1 + k = omega arith in
      rw (apart, next) (position_shifted t (i + 1) k names)
]

-- if none of the names passes, the others are counted on from their number
position_after : (t : List ℕ → Bool) (i : ℕ) (names more : List (List ℕ)) → position_from t i names ≡ None →
    position_from t i (names ++ more) ≡ position_from t (i + length names) more
position_after t i [] more none = let same : i + 0 ≡ i = omega arith in rw same refl
position_after t i (name ∷ names) more none = elim (cases_Bool (t name)) [
  | inl here ↦ let e : Some i ≡ None = rw here at none in absurd (cc)
  | inr apart ↦
      let next : i + length (name ∷ names) ≡ i + 1 + length names = omega arith in
      rw (apart, next) (position_after t (i + 1) names more (rw apart at none))
]

-- a word that is not among the names has its place among those that follow
pub place_after : (names more : List (List ℕ)) (word : List ℕ) → place_of_name names word ≡ None →
    place_of_name (names ++ more) word ≡ option_map (λ n. n + length names) (place_of_name more word)
place_after names more word none =
    position_after (bytes_eq word) 0 names more none ∙ position_shifted (bytes_eq word) 0 (length names) more

-- if none of the names passes, none of the last of them does
absent_after : (t : List ℕ → Bool) (i k : ℕ) (names more : List (List ℕ)) → position_from t i (names ++ more) ≡ None → position_from t k more ≡ None
absent_after t i k [] [] none = refl
absent_after t i k [] (name ∷ more) none = elim (cases_Bool (t name)) [
  | inl here ↦ let e : Some i ≡ None = rw here at none in absurd (cc)
  | inr apart ↦ rw apart (absent_after t (i + 1) (k + 1) [] more (rw apart at none))
]
absent_after t i k (name ∷ names) more none = elim (cases_Bool (t name)) [
  | inl here ↦ let e : Some i ≡ None = rw here at none in absurd (cc)
  | inr apart ↦ absent_after t (i + 1) k names more (rw apart at none)
]

-- a word that is not among the names is not among the last of them
pub none_after : (names more : List (List ℕ)) (word : List ℕ) → place_of_name (names ++ more) word ≡ None → place_of_name more word ≡ None
none_after names more word none = absent_after (bytes_eq word) 0 0 names more none

-- ---- the kinds by their names

-- past the four that are built in, a word has the place that it has among the declared sets
pub declared_kind : (d : Declared) (word : List ℕ) → place_of_name built_in_kind_names word ≡ None →
    place_of_name (kind_names d) word ≡ option_map (λ n. n + 4) (place_of_name d.set_names word)
declared_kind d word none = place_after built_in_kind_names d.set_names word none

-- the number of a declared set is two more than its place, and its place among all kinds two more
-- than its number
pub declared_place : (d : Declared) (word : List ℕ) (place : ℕ) → place_of_name built_in_kind_names word ≡ None → Some place ≡ place_of_name d.set_names word →
    place_of_name (kind_names d) word ≡ Some (2 + place + 2)
declared_place d word place none found =
    let number : place + 4 ≡ 2 + place + 2 = omega arith in
    declared_kind d word none ∙ ap (option_map (λ n. n + 4)) (sym found) ∙ ap Some number

-- a word that has no place names no kind
pub unnamed : (d : Declared) (word : List ℕ) → place_of_name (kind_names d) word ≡ None → (kind : Kind) → NamesKind d word kind → ⊥
unnamed d word none kinds.Interval named = none-some 0 (sym none ∙ named)
unnamed d word none (kinds.Members set) named = none-some (set.number + 2) (sym none ∙ named.0)
unnamed d word none kinds.Exact named = none-some 1 (sym none ∙ named)

pub no_kind : (d : Declared) (word : List ℕ) → place_of_name built_in_kind_names word ≡ None → place_of_name d.set_names word ≡ None →
    (kind : Kind) → NamesKind d word kind → ⊥
no_kind d word none absent kind named = unnamed d word (declared_kind d word none ∙ ap (option_map (λ n. n + 4)) absent) kind named

-- the name of a kind has a place
pub kind_is_there : (d : Declared) (word : List ℕ) (kind : Kind) → NamesKind d word kind → is_some (place_of_name (kind_names d) word) ≡ true
kind_is_there d word kinds.Interval named = ap is_some named
kind_is_there d word (kinds.Members set) named = ap is_some named.0
kind_is_there d word kinds.Exact named = ap is_some named

-- a mapped value is there where the value is
pub is_some-option_map : {X Y : Type 0} (f : X → Y) (o : Option X) → is_some (option_map f o) ≡ is_some o
is_some-option_map f None = refl
is_some-option_map f (Some x) = refl

-- what a clause says about a value that exists, and of none
pub at_some : {X : Type 0} (o : Option X) {P : X → Type 0} {Q : Type 0} → is_some o ≡ true → IfSome o P → ((x : X) → P x → Q) → Q
at_some None there p then = absurd (cc)
at_some (Some x) there p then = then x p

pub at_none : {X : Type 0} (o : Option X) {P : Type 0} → is_some o ≡ false → IfNone o P → P
at_none None absent p = p
at_none (Some x) absent p = absurd (cc)

-- a built-in set has its own members, for any declaration
pub built_in_same : (d : Declared) (set : ℕ) → set < 2 → members_of d set ≡ built_in_members set
built_in_same d zero few = refl
built_in_same d (suc zero) few = refl
built_in_same d (suc (suc set)) few = absurd (omega arith)
