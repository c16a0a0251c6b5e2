-- What holds of sources in a row holds of each part.
use Rattle.std.proofs.Common.{◌≡◌, ℕ, List, [], ◌∷◌, ◌++◌, length, take, drop, ap, ◌∙◌, subst, arith, length-append, append-nil}
use Rattle.std.specs.Prelude.{All}
use Rattle.std.proofs.lemmas.List.{drop_all, get_or_append_left, take_all}
use Rattle.std.proofs.lemmas.List.Elements.{All-tail}

-- of what holds of the elements of two lists in a row, the part that mentions the first
pub all_before : {X : Type 0} (P : X → Type 0) (xs ys : List X) → All P (xs ++ ys) → All P xs
all_before P xs ys all i d within =
    subst P (get_or_append_left xs ys d i within) (all i d (omega (arith, length-append xs ys)))

-- and of the second
pub all_after : {X : Type 0} (P : X → Type 0) (xs ys : List X) → All P (xs ++ ys) → All P ys
all_after P [] ys all = all
all_after P (x ∷ xs) ys all = all_after P xs ys (All-tail P x (xs ++ ys) all)

-- ---- lists that come back

-- a slice of all of a list comes back as the list
pub came_back : {X : Type 0} (new old : List X) (count : ℕ) → count ≡ length old → length new ≡ length old → take count (new ++ drop (length new) old) ≡ new
came_back new old count all same =
    ap (λ l. take count (new ++ l)) (drop_all (length new) old (omega arith)) ∙ ap (take count) (append-nil new) ∙ take_all count new (omega arith)
