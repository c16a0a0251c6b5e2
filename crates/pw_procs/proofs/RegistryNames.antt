-- The names of a list, one after another. The list is one of any items, each under a name.
use Rattle.std.proofs.Common.{◌≡◌, Bool, true, not, ◌&&◌, ◌||◌, ℕ, zero, suc, ◌+◌, ◌<◌, ◌≤◌, List, [], ◌∷◌, ◌++◌, Some, None, length, take, get_or, map, arith, refl, sym, ◌∙◌, ap, subst, inl, inr}
use Rattle.std.specs.Prelude.{◌⊎◌, nat_lt, slice_get, Contains, option_map}
use Rattle.std.specs.List.{position_from, list_any}
use Rattle.std.specs.Str.{bytes_eq}
use Rattle.std.proofs.lemmas.Bool.{cases_Bool, not-true, or_right}
use Rattle.std.proofs.lemmas.Bool.Decides.{nat_tests}
use Rattle.std.proofs.lemmas.List.{map_more, take-map, length-map, get_or-map, append-nil, append_assoc}
use Rattle.std.proofs.lemmas.List.Elements.{Contains-push_cases}
use Rattle.std.proofs.lemmas.Option.{slice_get_read, slice_get-map}
use Rattle.std.proofs.lemmas.Slice.Eq.{bytes_eq-Decides}
use Rattle.pw_kinds.proofs.Order.{true_both, not_both}
use Rattle.pw_info.specs.Name.{is_name}
use Rattle.pw_procs.specs.Registering.{place_of_name}
use Rattle.pw_procs.specs.Registering.{taken_names, IsFaultAfter, IsFirstNameFault, AreFreeBelow, AreRegistered, IsRegistryFault}
use Rattle.pw_procs.specs.declared.registry.RegistryFault.{RegistryFault}
use Rattle.pw_procs.specs.declared.registry.RegistryFault.TheVariants.{DuplicateName, BadName, TooMany, Memory}

-- what is made of the item at a place
pub made_there : {K P : Type 0} (g : K → P) (xs : List K) (i : ℕ) (x : K) → i < length xs → x ≡ get_or xs i x → slice_get (map g xs) i ≡ Some (g x)
made_there g xs i x within here = slice_get-map g xs i ∙ ap (option_map g) (slice_get_read xs (length xs) i x refl within here)

-- each item has a name
pub all_named : {K P : Type 0} (f : P → List ℕ) (g : K → P) (xs : List K) → length (map f (map g xs)) ≡ length xs
all_named f g xs = length-map (map g xs) f ∙ length-map xs g

-- what is made of the item at a place is at that place of the list that is made of the items
pub made_at : {K P : Type 0} (g : K → P) (xs : List K) (i : ℕ) (x : K) → i < length xs → x ≡ get_or xs i x → (i < length (map g xs)) × (g x ≡ get_or (map g xs) i (g x))
made_at g xs i x within here = (omega (arith, length-map xs g), sym (get_or-map g xs i x (g x) within ∙ ap g (sym here)))

-- ---- the place of a name

behind : (names : List (List ℕ)) (first name : List ℕ) → Contains names name → Contains (first ∷ names) name
behind names first name (k, within, e) = (suc k, omega arith, e)

-- a name that is not there has no place
none_from : (i : ℕ) (names : List (List ℕ)) (name : List ℕ) → (Contains names name → ⊥) → position_from (bytes_eq name) i names ≡ None
none_from i [] name absent = refl
none_from i (first ∷ names) name absent =
    elim (cases_Bool (bytes_eq name first)) [
      | inl same ↦ absurd (absent (0, omega arith, sym ((bytes_eq-Decides name first).0 same)))
      | inr other ↦ rw other (none_from (i + 1) names name (λ there. absent (behind names first name there)))
    ]

absent_from : (i : ℕ) (names : List (List ℕ)) (name : List ℕ) → position_from (bytes_eq name) i names ≡ None → Contains names name → ⊥
absent_from i [] name none (k, within, e) = omega arith
absent_from i (first ∷ names) name none (zero, within, e) =
    let bad : Some i ≡ None = rw ((bytes_eq-Decides name first).1 (sym e)) at none in cc
absent_from i (first ∷ names) name none (suc k, within, e) =
    elim (cases_Bool (bytes_eq name first)) [
      | inl same ↦ (let bad : Some i ≡ None = rw same at none in cc)
      | inr other ↦ absent_from (i + 1) names name (rw other at none) (k, omega arith, e)
    ]

-- a name with no place is not there
pub absent : (names : List (List ℕ)) (name : List ℕ) → place_of_name names name ≡ None → Contains names name → ⊥
absent names name none there = absent_from 0 names name none there

place_from : (i : ℕ) (names : List (List ℕ)) (name : List ℕ) (place : ℕ) → position_from (bytes_eq name) i names ≡ Some place → (k : ℕ) × (place ≡ i + k) × (slice_get names k ≡ Some name)
place_from i [] name place e = absurd (cc)
place_from i (first ∷ names) name place e =
    elim (cases_Bool (bytes_eq name first)) [
      | inl same ↦ (let here : Some i ≡ Some place = rw same at e in (0, (let p : i ≡ place = cc in omega arith), ap Some (sym ((bytes_eq-Decides name first).0 same))))
      | inr other ↦ (let (k, p, at) = place_from (i + 1) names name place (rw other at e) in (suc k, omega arith, at))
    ]

-- the name that has a place is there
pub at_place : (names : List (List ℕ)) (name : List ℕ) (place : ℕ) → place_of_name names name ≡ Some place → slice_get names place ≡ Some name
at_place names name place e = let (k, p, at) = place_from 0 names name place e in (let same : place ≡ k = omega arith in rw same at)

-- ---- one item after another

-- an item of this name is there
pub named_here : {K : Type 0} (f : K → List ℕ) (xs : List K) (i : ℕ) (x : K) (name : List ℕ) → i < length xs → x ≡ get_or xs i x → f x ≡ name → Contains (map f xs) name
named_here f xs i x name within here same = (i, omega (arith, length-map xs f), get_or-map f xs i x name within ∙ ap f (sym here) ∙ same)

-- the names with the next item's are those so far and its own
pub one_more : {K : Type 0} (f : K → List ℕ) (xs : List K) (i : ℕ) (x : K) → i < length xs → x ≡ get_or xs i x → map f (take (i + 1) xs) ≡ map f (take i xs) ++ f x ∷ []
one_more f xs i x within here = map_more f xs i x within ∙ ap (λ y. map f (take i xs) ++ f y ∷ []) (sym here)

-- a name that no item so far has, and the next has not, no item up to there has
pub absent_more : {K : Type 0} (f : K → List ℕ) (xs : List K) (i : ℕ) (x : K) (name : List ℕ) → i < length xs → x ≡ get_or xs i x → (f x ≡ name → ⊥) →
    (Contains (map f (take i xs)) name → ⊥) → Contains (map f (take (i + 1) xs)) name → ⊥
absent_more f xs i x name within here other before there =
    elim (Contains-push_cases (map f (take i xs)) (f x) name (subst (λ l. Contains l name) (one_more f xs i x within here) there)) [
      | inl earlier ↦ before earlier
      | inr same ↦ other same
    ]

up_to : (k n : ℕ) → k < n + 1 → (k < n) ⊎ (k ≡ n)
up_to k n below =
    elim (cases_Bool (nat_lt k n)) [
      | inl less ↦ inl (grind (arith, nat_tests))
      | inr least ↦ inr (grind (arith, nat_tests))
    ]

-- if nothing is wrong with the next name either, nothing is wrong up to there
pub free_more : {K : Type 0} (f : K → List ℕ) (xs : List K) (i : ℕ) (x : K) → i < length xs → x ≡ get_or xs i x →
    ((fault : RegistryFault) → IsFaultAfter (map f (take i xs)) (f x) fault → ⊥) → AreFreeBelow (map f xs) i → AreFreeBelow (map f xs) (i + 1)
free_more f xs i x within here free before k name fault below at wrong =
    elim (up_to k i below) [
      | inl earlier ↦ before k name fault earlier at wrong
      | inr last ↦ (
          let stands : Some name ≡ Some (f x) = sym at ∙ ap (slice_get (map f xs)) last ∙ made_there f xs i x within here in
          let same : name ≡ f x = cc in
          let names : take k (map f xs) ≡ map f (take i xs) = ap (λ n. take n (map f xs)) last ∙ take-map f i xs in
          free fault (subst (λ l. IsFaultAfter l (f x) fault) names (subst (λ n. IsFaultAfter (take k (map f xs)) n fault) same wrong)))
    ]

-- the first fault is that of the list
first_named : {K : Type 0} (f : K → List ℕ) (xs : List K) (i : ℕ) (x : K) (fault : RegistryFault) → length xs ≤ 64 → i < length xs → x ≡ get_or xs i x →
    IsFaultAfter (map f (take i xs)) (f x) fault → AreFreeBelow (map f xs) i → IsFirstNameFault (map f xs) fault
first_named f xs i x fault few within here wrong before = record {
  most = omega (arith, length-map xs f);
  place = i;
  name = f x;
  stands = made_there f xs i x within here;
  wrong = subst (λ l. IsFaultAfter l (f x) fault) (sym (take-map f i xs)) wrong;
  first = before;
}

pub first_is : {K : Type 0} (f : K → List ℕ) (xs : List K) (i : ℕ) (x : K) (fault : RegistryFault) → length xs ≤ 64 → i < length xs → x ≡ get_or xs i x →
    IsFaultAfter (map f (take i xs)) (f x) fault → AreFreeBelow (map f xs) i → IsRegistryFault (map f xs) fault
first_is f xs i x BadName few within here wrong before = first_named f xs i x BadName few within here wrong before
first_is f xs i x DuplicateName few within here wrong before = first_named f xs i x DuplicateName few within here wrong before
first_is f xs i x TooMany few within here wrong before = absurd wrong
first_is f xs i x Memory few within here wrong before = absurd wrong

-- in a registry's list the next name has no place among those before it
pub is_new : {K : Type 0} (f : K → List ℕ) (xs : List K) (i : ℕ) (x : K) → i < length xs → x ≡ get_or xs i x → AreRegistered (map f xs) → place_of_name (map f (take i xs)) (f x) ≡ None
is_new f xs i x within here names =
    let free : (fault : RegistryFault) → IsFaultAfter (map f (take i xs)) (f x) fault → ⊥ =
    λ fault wrong. names.free i (f x) fault (omega (arith, length-map xs f)) (made_there f xs i x within here)
    (subst (λ l. IsFaultAfter l (f x) fault) (sym (take-map f i xs)) wrong) in
    none_from 0 (map f (take i xs)) (f x) (λ there. free DuplicateName (free BadName, there))

-- ---- names that are known

-- a place that has a name is one of the list
place_below : (names : List (List ℕ)) (k : ℕ) (name : List ℕ) → slice_get names k ≡ Some name → k < length names
place_below [] k name at = absurd (cc)
place_below (first ∷ names) zero name at = omega arith
place_below (first ∷ names) (suc k) name at = let below : k < length names = place_below names k name at in omega arith

-- whether names may be in a registry after others, apart from their number
abbrev pub are_free : List (List ℕ) → List (List ℕ) → Bool
are_free before [] = true
are_free before (name ∷ names) =
    is_name name && not (list_any (bytes_eq name) taken_names) && not (list_any (bytes_eq name) before) && are_free (before ++ name ∷ []) names

-- a name that exists passes the test for it
any_there : (names : List (List ℕ)) (name : List ℕ) → Contains names name → list_any (bytes_eq name) names ≡ true
any_there [] name (k, within, e) = absurd (omega arith)
any_there (first ∷ names) name (zero, within, e) = ap (λ b. b || list_any (bytes_eq name) names) ((bytes_eq-Decides name first).1 (sym e))
any_there (first ∷ names) name (suc k, within, e) = or_right (bytes_eq name first) _ (any_there names name (k, omega arith, e))

-- a name that passes is not a bad one, and none of those before it
no_fault : (before : List (List ℕ)) (name : List ℕ) (fault : RegistryFault) → is_name name ≡ true → not (list_any (bytes_eq name) taken_names) ≡ true
    → not (list_any (bytes_eq name) before) ≡ true → IsFaultAfter before name fault → ⊥
no_fault before name BadName named free new (inl bad) = not_both _ named bad
no_fault before name BadName named free new (inr taken) = not_both _ (any_there taken_names name taken) (not-true _ free)
no_fault before name DuplicateName named free new (good, there) = not_both _ (any_there before name there) (not-true _ new)
no_fault before name TooMany named free new wrong = wrong
no_fault before name Memory named free new wrong = wrong

-- nothing is wrong with names that pass
free_after : (before names : List (List ℕ)) → are_free before names ≡ true → (k : ℕ) (name : List ℕ) (fault : RegistryFault)
    → slice_get names k ≡ Some name → IsFaultAfter (before ++ take k names) name fault → ⊥
free_after before [] e k name fault at wrong = absurd (cc)
free_after before (first ∷ names) e zero name fault at wrong =
    let same : first ≡ name = cc in
    let rest = true_both _ _ (true_both _ _ e).0 in
    let good = true_both _ _ rest.0 in
    no_fault before first fault good.0 good.1 rest.1
    (subst (λ l. IsFaultAfter l first fault) (append-nil before) (subst (λ n. IsFaultAfter (before ++ []) n fault) (sym same) wrong))
free_after before (first ∷ names) e (suc k) name fault at wrong =
    free_after (before ++ first ∷ []) names (true_both _ _ e).1 k name fault at
    (subst (λ l. IsFaultAfter l name fault) (sym (append_assoc before (first ∷ []) (take k names))) wrong)

-- names that pass, few enough, are those of a registry
pub registered_by_test : (names : List (List ℕ)) → are_free [] names ≡ true → length names ≤ 64 → AreRegistered names
registered_by_test names e few = record { most = few; free = λ k name fault below at wrong. free_after [] names e k name fault at wrong }

-- names of a registry are refused only when out of memory
pub only_memory : (names : List (List ℕ)) (fault : RegistryFault) → AreRegistered names → IsRegistryFault names fault → fault ≡ Memory
only_memory names Memory are is = refl
only_memory names TooMany are is = absurd (omega (arith, are.most))
only_memory names BadName are is = absurd (are.free is.place is.name BadName (place_below names is.place is.name is.stands) is.stands is.wrong)
only_memory names DuplicateName are is = absurd (are.free is.place is.name DuplicateName (place_below names is.place is.name is.stands) is.stands is.wrong)
