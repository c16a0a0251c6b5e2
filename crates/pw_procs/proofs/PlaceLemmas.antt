use Rattle.std.proofs.Common.{◌≡◌, ℕ, zero, suc, ◌+◌, ◌<◌, Bool, true, false, cond, ◌||◌, List, [], ◌∷◌, ◌++◌, Some, None, length, get_or, map, refl, sym, ◌∙◌, ap, subst, arith, inl, inr}
use Rattle.std.proofs.lemmas.Bool.{cases_Bool, false≢true}
use Rattle.std.proofs.lemmas.List.{map_push, length-map}
use Rattle.std.proofs.lemmas.List.Elements.{All-push}
use Rattle.std.proofs.lemmas.Option.{slice_get_read, slice_get-map}
use Rattle.std.proofs.lemmas.Iterator.Adapters.{position_from-zero}
use Rattle.std.specs.List.{position, position_from, list_any, slice_get, All, AllByRecursion, IsDistinct}
use Rattle.std.proofs.lemmas.Map.Keys.{IsDistinct-head, IsDistinct-tail}
use Rattle.std.specs.Str.{bytes_eq, IsUtf8}
use Rattle.std.proofs.lemmas.Slice.Eq.{bytes_eq-Decides}
use Rattle.std.specs.Prelude.{if◌then◌else◌, option_map}
use Rattle.pw_procs.specs.Registering.{place_of_name}

-- a place in a mapped list is the place of what is mapped to it
position_from-map : {K X : Type 0} (f : K → X) (t : X → Bool) (i : ℕ) (ks : List K) → position_from (λ k. t (f k)) i ks ≡ position_from t i (map f ks)
position_from-map f t i [] = refl
position_from-map f t i (k ∷ ks) = ap (cond (t (f k)) (Some i)) (position_from-map f t (i + 1) ks)

pub place : {K : Type 0} (f : K → List ℕ) (word : List ℕ) (ks : List K) → position (λ k. bytes_eq word (f k)) ks ≡ place_of_name (map f ks) word
place f word ks = position_from-zero (λ k. bytes_eq word (f k)) ks ∙ position_from-map f (bytes_eq word) 0 ks

-- a word with no place is equal to no name
none-list_any : {X : Type 0} (t : X → Bool) (i : ℕ) (xs : List X) → position_from t i xs ≡ None → list_any t xs ≡ false
none-list_any t i [] none = refl
none-list_any t i (x ∷ xs) none =
    elim (cases_Bool (t x)) [
      | inl yes_here ↦ absurd (let e : Some i ≡ None = rw yes_here at none in cc)
      | inr not_here ↦ rw not_here (none-list_any t (i + 1) xs (rw not_here at none))
    ]

list_any-map : {K X : Type 0} (f : K → X) (t : X → Bool) (ks : List K) → list_any (λ k. t (f k)) ks ≡ list_any t (map f ks)
list_any-map f t [] = refl
list_any-map f t (k ∷ ks) = ap (λ b. t (f k) || b) (list_any-map f t ks)

-- a new name goes last
pub added : {K : Type 0} (f : K → List ℕ) (key : K) (ks : List K) → place_of_name (map f ks) (f key) ≡ None → map f (if list_any (λ k. bytes_eq (f key) (f k)) ks then ks else ks ++ key ∷ []) ≡ map f ks ++ f key ∷ []
added f key ks none =
    let new : list_any (λ k. bytes_eq (f key) (f k)) ks ≡ false = list_any-map f (bytes_eq (f key)) ks ∙ none-list_any (bytes_eq (f key)) 0 (map f ks) none in
    rw new (map_push f ks key)

-- if all names are texts and one more is, all are with it
pub texts_added : {K : Type 0} (f : K → List ℕ) (key : K) (ks : List K) → IsUtf8 (f key) → All (λ k. IsUtf8 (f k)) ks
    → All (λ k. IsUtf8 (f k)) (if list_any (λ k. bytes_eq (f key) (f k)) ks then ks else ks ++ key ∷ [])
texts_added f key ks text texts =
    elim (cases_Bool (list_any (λ k. bytes_eq (f key) (f k)) ks)) [
      | inl known ↦ rw known texts
      | inr new ↦ rw new (All-push (λ k. IsUtf8 (f k)) ks key texts text)
    ]

-- ---- the name at a place, if no two names are equal

differs : {K : Type 0} (f : K → List ℕ) (x k : K) → bytes_eq (f x) (f k) ≡ false → bytes_eq (f k) (f x) ≡ false
differs f x k apart =
    elim (cases_Bool (bytes_eq (f k) (f x))) [
      | inl same ↦ absurd (false≢true (sym apart ∙ (bytes_eq-Decides (f x) (f k)).1 (sym ((bytes_eq-Decides (f k) (f x)).0 same))))
      | inr other ↦ other
    ]

AllByRecursion-at : {K : Type 0} (P : K → Type 0) (ks : List K) (i : ℕ) (k : K) → AllByRecursion P ks → slice_get ks i ≡ Some k → P k
AllByRecursion-at P [] i k all at = absurd (let e : None ≡ Some k = at in cc)
AllByRecursion-at P (x ∷ ks) zero k all at = let e : x ≡ k = cc in subst P e all.0
AllByRecursion-at P (x ∷ ks) (suc i) k all at = AllByRecursion-at P ks i k all.1 at

own_place_from : {K : Type 0} (f : K → List ℕ) (ks : List K) (i j : ℕ) (k : K) → IsDistinct (λ a b. bytes_eq (f a) (f b)) ks → slice_get ks i ≡ Some k →
    position_from (bytes_eq (f k)) j (map f ks) ≡ Some (j + i)
own_place_from f [] i j k distinct at = absurd (let e : None ≡ Some k = at in cc)
own_place_from f (x ∷ ks) zero j k distinct at =
    let same : bytes_eq (f k) (f x) ≡ true = let e : x ≡ k = cc in (bytes_eq-Decides (f k) (f x)).1 (sym (ap f e)) in
    rw same (ap Some (omega arith))
own_place_from f (x ∷ ks) (suc i) j k distinct at =
    let apart = AllByRecursion-at (λ y. bytes_eq (f x) (f y) ≡ false) ks i k (IsDistinct-head (λ a b. bytes_eq (f a) (f b)) x ks distinct) at in
    rw (differs f x k apart) (own_place_from f ks i (j + 1) k (IsDistinct-tail (λ a b. bytes_eq (f a) (f b)) x ks distinct) at ∙ ap Some (omega arith))

-- the name at a place has that place
pub own_place : {K : Type 0} (f : K → List ℕ) (ks : List K) (i : ℕ) (k : K) → IsDistinct (λ a b. bytes_eq (f a) (f b)) ks → slice_get ks i ≡ Some k → place_of_name (map f ks) (f k) ≡ Some i
own_place f ks i k distinct at = own_place_from f ks i 0 k distinct at ∙ ap Some (omega arith)

pub own_name : {K : Type 0} (f : K → List ℕ) (ks : List K) (names : List (List ℕ)) (i : ℕ) (k : K) →
    map f ks ≡ names → i < length names → k ≡ get_or ks i k → IsDistinct (λ a b. bytes_eq (f a) (f b)) ks → place_of_name names (f k) ≡ Some i
own_name f ks names i k view within at distinct =
    let few : i < length ks = omega (arith, ap length view, length-map ks f) in
    rw (← view) (own_place f ks i k distinct (slice_get_read ks (length ks) i k refl few at))

-- and is there
pub name_there : {K : Type 0} (f : K → List ℕ) (ks : List K) (names : List (List ℕ)) (i : ℕ) (k : K) →
    map f ks ≡ names → i < length names → k ≡ get_or ks i k → slice_get names i ≡ Some (f k)
name_there f ks names i k view within at =
    let few : i < length ks = omega (arith, ap length view, length-map ks f) in
    rw (← view) (slice_get-map f ks i ∙ ap (option_map f) (slice_get_read ks (length ks) i k refl few at))
