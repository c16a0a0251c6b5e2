-- Members of lists: of what a map, a filter and a list of lists give, and of numbers that rise,
-- which their members determine.
use Rattle.std.proofs.Common.{◌≡◌, ℕ, zero, suc, ◌<◌, ◌≤◌, ◌⊎◌, inl, inr, Bool, true, List, [], ◌∷◌, filter, map, refl, sym, ap, ◌∙◌, arith, All, Contains}
use Rattle.std.specs.List.{AllPairs, flat_map, list_any}
use Rattle.std.specs.List.Sorted.{IsStrictlyIncreasing}
use Rattle.std.proofs.lemmas.List.Elements.{All-contains, All-contains_itself, All-filter, Contains-append_cases, filter_passes}
use Rattle.std.proofs.lemmas.List.Folds.{list_any_at}
use Rattle.std.proofs.lemmas.List.Kept.{AllPairs-from_increasing}
use Rattle.pw_settle.proofs.Membership.{contains_first, contains_more}

-- ---- members

-- an empty list has none
pub none_of_none : {X : Type 0} (x : X) → Contains [] x → ⊥
none_of_none x (k, within, is) = omega (arith, within)

-- a member of a list is its first or one of the rest
pub which_member : {X : Type 0} (x y : X) (xs : List X) → Contains (x ∷ xs) y → (x ≡ y) ⊎ Contains xs y
which_member x y xs (zero, within, is) = inl is
which_member x y xs (suc k, within, is) = inr (k, omega (arith, within), is)

-- what a map makes of a list is made of one of the list
pub member_mapped : {X Y : Type 0} (f : X → Y) (xs : List X) (y : Y) → Contains (map f xs) y →
    (x : X) × Contains xs x × (f x ≡ y)
member_mapped f [] y has = absurd (none_of_none y has)
member_mapped f (x ∷ xs) y has =
    elim (which_member (f x) y (map f xs) has) [
      | inl first ↦ (x, contains_first x xs, first)
      | inr later ↦ let found = member_mapped f xs y later in (found.0, contains_more x found.0 xs found.1, found.2)
    ]

-- what a filter keeps is of the list, and passes
pub member_kept : {X : Type 0} (p : X → Bool) (xs : List X) (x : X) → Contains (filter p xs) x → Contains xs x × (p x ≡ true)
member_kept p xs x has = (
  All-contains (Contains xs) (filter p xs) x (All-filter p (Contains xs) xs (All-contains_itself xs)) has,
  All-contains (λ y. p y ≡ true) (filter p xs) x (filter_passes p xs) has,
)

-- what a list of lists gives is given by one of them
pub member_of_one : {X Y : Type 0} (f : X → List Y) (xs : List X) (y : Y) → Contains (flat_map f xs) y →
    (x : X) × Contains xs x × Contains (f x) y
member_of_one f [] y has = absurd (none_of_none y has)
member_of_one f (x ∷ xs) y has =
    elim (Contains-append_cases (f x) (flat_map f xs) y has) [
      | inl first ↦ (x, contains_first x xs, first)
      | inr later ↦ let found = member_of_one f xs y later in (found.0, contains_more x found.0 xs found.1, found.2)
    ]

-- if a member passes, some does
pub any_member : {X : Type 0} (p : X → Bool) (xs : List X) (x : X) → Contains xs x → p x ≡ true → list_any p xs ≡ true
any_member p xs x (k, within, is) passes = list_any_at p xs k x within (ap p is ∙ passes)

-- ---- numbers that rise

-- of numbers that rise, each of the rest is above the first
rest_above : (x : ℕ) (xs : List ℕ) → AllPairs (λ m n. m < n) (x ∷ xs) → All (λ n. x < n) xs
rest_above x xs pairs k d within = pairs zero (suc k) d (omega arith) (omega (arith, within))

-- and the rest rises
rest_pairs : (x : ℕ) (xs : List ℕ) → AllPairs (λ m n. m < n) (x ∷ xs) → AllPairs (λ m n. m < n) xs
rest_pairs x xs pairs i j d below within = pairs (suc i) (suc j) d (omega (arith, below)) (omega (arith, within))

-- a member is no lower than the first
not_below : (x n : ℕ) (xs : List ℕ) → AllPairs (λ m n. m < n) (x ∷ xs) → Contains (x ∷ xs) n → x ≤ n
not_below x n xs pairs has =
    elim (which_member x n xs has) [
      | inl first ↦ omega (arith, first)
      | inr later ↦ let above = All-contains (λ m. x < m) xs n (rest_above x xs pairs) later in omega (arith, above)
    ]

-- if two lists that rise begin with the same and each member of the first is one of the second, so
-- it is with their rests
rest_within : (x y : ℕ) (xs ys : List ℕ) → x ≡ y → AllPairs (λ m n. m < n) (x ∷ xs) →
    ((n : ℕ) → Contains (x ∷ xs) n → Contains (y ∷ ys) n) → (n : ℕ) → Contains xs n → Contains ys n
rest_within x y xs ys same pairs within n has =
    let above = All-contains (λ m. x < m) xs n (rest_above x xs pairs) has in
    elim (which_member y n ys (within n (contains_more x n xs has))) [
      | inl first ↦ absurd (omega (arith, first, above, same))
      | inr later ↦ later
    ]

same_pairs : (xs ys : List ℕ) → AllPairs (λ m n. m < n) xs → AllPairs (λ m n. m < n) ys →
    ((n : ℕ) → Contains xs n → Contains ys n) → ((n : ℕ) → Contains ys n → Contains xs n) → xs ≡ ys
same_pairs [] [] one other within back = refl
same_pairs [] (y ∷ ys) one other within back = absurd (none_of_none y (back y (contains_first y ys)))
same_pairs (x ∷ xs) [] one other within back = absurd (none_of_none x (within x (contains_first x xs)))
same_pairs (x ∷ xs) (y ∷ ys) one other within back =
    let least : x ≤ y = not_below x y xs one (back y (contains_first y ys)) in
    let most : y ≤ x = not_below y x ys other (within x (contains_first x xs)) in
    let same : x ≡ y = omega arith in
    let rest : xs ≡ ys =
    same_pairs xs ys (rest_pairs x xs one) (rest_pairs y ys other) (rest_within x y xs ys same one within)
    (rest_within y x ys xs (sym same) other back) in
    λ i. same i ∷ rest i

-- numbers that rise and have the same members are the same
pub same_rising : (xs ys : List ℕ) → IsStrictlyIncreasing xs → AllPairs (λ m n. m < n) ys →
    ((n : ℕ) → Contains xs n → Contains ys n) → ((n : ℕ) → Contains ys n → Contains xs n) → xs ≡ ys
same_rising xs ys one other within back = same_pairs xs ys (AllPairs-from_increasing xs one) other within back
