-- Members of lists, and of what a map or a filter makes of them.
use Rattle.std.proofs.Common.{◌≡◌, List, [], ◌∷◌, Bool, true, false, cond, map, filter, All, Contains, refl, arith}
use Rattle.std.proofs.lemmas.List.Elements.{All-cons, All-contains, All-contains_itself, All-head, All-nil, All-tail, All-weaker, Contains-append_right}

-- functions that agree on what is there give the same list
pub same_on : {A B : Type 0} (f g : A → B) (xs : List A) → All (λ x. f x ≡ g x) xs → map f xs ≡ map g xs
same_on f g [] same = refl
same_on f g (x ∷ xs) same = λ i. All-head (λ x. f x ≡ g x) x xs same i ∷ same_on f g xs (All-tail (λ x. f x ≡ g x) x xs same) i

-- what holds of each member of a list holds of all of the list
pub each_member : {X : Type 0} (P : X → Type 0) (xs : List X) → ((x : X) → Contains xs x → P x) → All P xs
each_member P xs holds = All-weaker (Contains xs) P holds xs (All-contains_itself xs)

-- a list has its first
pub contains_first : {X : Type 0} (x : X) (xs : List X) → Contains (x ∷ xs) x
contains_first x xs = (0, omega arith, refl)

-- a list with one more has what it had
pub contains_more : {X : Type 0} (x y : X) (xs : List X) → Contains xs y → Contains (x ∷ xs) y
contains_more x y xs has = Contains-append_right (x ∷ []) xs y has

-- a list that a map makes has what the map makes of each of the list
all_mapped : {X Y : Type 0} (f : X → Y) (xs : List X) → All (λ x. Contains (map f xs) (f x)) xs
all_mapped f [] = All-nil (λ x. Contains [] (f x))
all_mapped f (x ∷ xs) =
    All-cons (λ y. Contains (f x ∷ map f xs) (f y)) x xs (contains_first (f x) (map f xs))
    (All-weaker (λ y. Contains (map f xs) (f y)) (λ y. Contains (f x ∷ map f xs) (f y)) (λ y. contains_more (f x) (f y) (map f xs)) xs (all_mapped f xs))

-- what a map makes of a member is a member of what it makes of the list
pub contains_map : {X Y : Type 0} (f : X → Y) (xs : List X) (x : X) → Contains xs x → Contains (map f xs) (f x)
contains_map f xs x has = All-contains (λ y. Contains (map f xs) (f y)) xs x (all_mapped f xs) has

-- a list to which a first is added if a test passes has it if it passes
first_kept : {X : Type 0} (b : Bool) (x : X) (rest : List X) → b ≡ true → Contains (cond b (x ∷ rest) rest) x
first_kept true x rest passes = contains_first x rest
first_kept false x rest passes = absurd (cc)

-- and it has the others either way
rest_kept : {X : Type 0} (b : Bool) (x y : X) (rest : List X) → Contains rest y → Contains (cond b (x ∷ rest) rest) y
rest_kept true x y rest has = contains_more x y rest has
rest_kept false x y rest has = has

-- of each of a list: what a filter keeps has it if it passes
all_kept : {X : Type 0} (p : X → Bool) (xs : List X) → All (λ x. p x ≡ true → Contains (filter p xs) x) xs
all_kept p [] = All-nil (λ x. p x ≡ true → Contains [] x)
all_kept p (x ∷ xs) =
    All-cons (λ y. p y ≡ true → Contains (cond (p x) (x ∷ filter p xs) (filter p xs)) y) x xs (first_kept (p x) x (filter p xs))
    (All-weaker (λ y. p y ≡ true → Contains (filter p xs) y) (λ y. p y ≡ true → Contains (cond (p x) (x ∷ filter p xs) (filter p xs)) y)
    (λ y has passes. rest_kept (p x) x y (filter p xs) (has passes)) xs (all_kept p xs))

-- a filter keeps the members that pass
pub contains_filter : {X : Type 0} (p : X → Bool) (xs : List X) (x : X) → p x ≡ true → Contains xs x → Contains (filter p xs) x
contains_filter p xs x passes has = All-contains (λ y. p y ≡ true → Contains (filter p xs) y) xs x (all_kept p xs) has passes
