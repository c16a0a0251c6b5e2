-- Lists in which nothing stands twice, and groups with one more.
use Rattle.std.proofs.Common.{◌≡◌, ◌≢◌, ◌↔◌, Bool, true, false, ◌||◌, nat_eq, ℕ, ◌+◌, ◌-◌, ◌<◌, ◌⊎◌, inl, inr, List, [], ◌∷◌, ◌++◌, All, Contains, length, map, take, drop, replicate, refl, sym, ap, ◌∙◌, subst, arith, append-nil, append_assoc, length-append}
use Rattle.std.specs.Prelude.{IsTrue, slice_index_or, slice_set}
use Rattle.std.specs.List.{AllPairs, list_any}
use Rattle.std.proofs.lemmas.List.{drop-drop, drop-replicate, drop-set-lt, drop_more, get_or_append_left, get_or_at, get_or_default, length-drop, length-replicate, length_push, map_push, take_more, take_more_set, take-append-drop}
use Rattle.std.proofs.lemmas.List.Concat.{flat_map-append}
use Rattle.std.proofs.lemmas.List.Elements.{All-push, Contains-append_cases, Contains-append_left, Contains-append_right}
use Rattle.std.proofs.lemmas.List.Folds.{Any-from_list_any, list_any-append, list_any_at}
use Rattle.std.proofs.lemmas.List.Quantifiers.{all_pairs_push}
use Rattle.std.proofs.lemmas.Bool.{eqb-true, eq-eqb, false≢true}
use Rattle.pw_reasons.specs.declared.group.Group.{Group}
use Rattle.pw_reasons.specs.inside.GroupsHeld.{FillsUp, groups_in, no_group, premises_in}
use Rattle.pw_reasons.specs.Groups.{AreGroups, IsGroup, all_of, most_groups}

-- no number stands twice
abbrev pub IsOnce : List ℕ → Type 0
IsOnce xs = AllPairs (λ m n. m ≢ n) xs

-- ---- whether a number is there

-- whether the number is one of these
abbrev has : ℕ → List ℕ → Bool
has x xs = list_any (λ n. nat_eq n x) xs

-- one of the lists has it exactly if all of them together have
pub found_in_all : {X : Type 0} (shown : X → List ℕ) (x : ℕ) (xs : List X) →
    list_any (λ y. list_any (λ n. nat_eq n x) (shown y)) xs ≡ list_any (λ n. nat_eq n x) (all_of (map shown xs))
found_in_all shown x [] = refl
found_in_all shown x (y ∷ xs) =
    ap (λ b. has x (shown y) || b) (found_in_all shown x xs) ∙ sym (list_any-append (λ n. nat_eq n x) (shown y) (all_of (map shown xs)))

-- a number that a test finds is there, and one that it does not find is not
pub is_there : (xs : List ℕ) (x : ℕ) (found : Bool) → found ≡ list_any (λ n. nat_eq n x) xs → found ≡ true → Contains xs x
is_there xs x found is one_is =
    let one = Any-from_list_any (λ n. nat_eq n x) xs (sym is ∙ one_is) in
    (one.0, one.2, get_or_default xs one.0 x one.1 one.2 ∙ one.3 ∙ eqb-true one.1 x one.4)

pub not_there : (xs : List ℕ) (x : ℕ) (found : Bool) → found ≡ list_any (λ n. nat_eq n x) xs → found ≡ false → Contains xs x → ⊥
not_there xs x found is none_is (k, within, same) =
    false≢true (sym none_is ∙ is ∙ list_any_at (λ n. nat_eq n x) xs k x within (eq-eqb (slice_index_or xs k x) x same))

pub found_exactly : (xs : List ℕ) (x : ℕ) (found : Bool) → found ≡ list_any (λ n. nat_eq n x) xs → IsTrue found ↔ Contains xs x
found_exactly xs x found is = (
  is_there xs x found is,
  λ there.
      is ∙ list_any_at (λ n. nat_eq n x) xs there.0 x there.1 (eq-eqb (slice_index_or xs there.0 x) x there.2),
)

-- ---- no number twice

-- one more that is not there
pub once_more : (xs : List ℕ) (x : ℕ) → IsOnce xs → (Contains xs x → ⊥) → IsOnce (xs ++ x ∷ [])
once_more xs x once new = all_pairs_push (λ m n. m ≢ n) xs x once (λ k d within same.
    new (k, within, get_or_default xs k x d within ∙ same))

-- a premise that is in the list already is in it twice once it is added, and stays so with more
pub twice : (xs : List ℕ) (x : ℕ) (ys : List ℕ) → Contains xs x → IsOnce (xs ++ x ∷ ys) → ⊥
twice xs x ys (k, within, is) once =
    once k (length xs) x within (omega (arith, length-append xs (x ∷ ys)))
    (get_or_append_left xs (x ∷ ys) x k within ∙ is ∙ sym (get_or_at xs x ys x (length xs) refl))

-- if nothing stands twice so far, nothing does with the next of further numbers, if it is new
pub next_is_new : (held xs : List ℕ) (place : ℕ) → place < length xs → IsOnce (held ++ take place xs) →
    (Contains held (slice_index_or xs place 0) → ⊥) → (Contains (take place xs) (slice_index_or xs place 0) → ⊥) →
    IsOnce (held ++ take (place + 1) xs)
next_is_new held xs place within once held_not taken_not =
    subst IsOnce (append_assoc held (take place xs) (slice_index_or xs place 0 ∷ []) ∙ ap (λ ys. held ++ ys) (sym (take_more xs place 0 within)))
    (once_more (held ++ take place xs) (slice_index_or xs place 0) once (λ there.
    elim (Contains-append_cases held (take place xs) (slice_index_or xs place 0) there) [
      | inl one ↦ held_not one
      | inr one ↦ taken_not one
    ]))

-- and if it is not new, something does in the whole
pub next_is_not : (held xs : List ℕ) (place : ℕ) → place < length xs →
    Contains held (slice_index_or xs place 0) ⊎ Contains (take place xs) (slice_index_or xs place 0) →
    IsOnce (held ++ xs) → ⊥
next_is_not held xs place within there once =
    let x : ℕ = slice_index_or xs place 0 in
    let cut : held ++ xs ≡ (held ++ take place xs) ++ x ∷ drop (place + 1) xs =
    ap (λ ys. held ++ ys) (sym (take-append-drop place xs) ∙ ap (λ ys. take place xs ++ ys) (drop_more xs place 0 within))
    ∙ sym (append_assoc held (take place xs) (x ∷ drop (place + 1) xs)) in
    let both : Contains (held ++ take place xs) x = elim there [
      | inl one ↦ Contains-append_left held (take place xs) x one
      | inr one ↦ Contains-append_right held (take place xs) x one
    ] in
    twice (held ++ take place xs) x (drop (place + 1) xs) both (subst IsOnce cut once)

-- ---- one more group

-- what is in the groups with one more
pub all_of_more : {X : Type 0} (groups : List (List X)) (group : List X) → all_of (groups ++ group ∷ []) ≡ all_of groups ++ group
all_of_more groups group = flat_map-append (λ g. g) groups (group ∷ []) ∙ ap (λ g. all_of groups ++ g) (append-nil group)

-- they are groups if there is room, the one more is a group, and nothing stands twice
pub groups_more : (groups : List (List ℕ)) (group : List ℕ) → length groups < most_groups → All IsGroup groups →
    IsGroup group → IsOnce (all_of groups ++ group) → AreGroups (groups ++ group ∷ [])
groups_more groups group few each is once = record {
  some = omega (arith, length_push groups group);
  few = omega (arith, length_push groups group);
  each = All-push IsGroup groups group each is;
  once = subst IsOnce (sym (all_of_more groups group)) once;
}

-- and only then
pub last_is_group : (groups : List (List ℕ)) (group : List ℕ) → AreGroups (groups ++ group ∷ []) → IsGroup group
last_is_group groups group are =
    let at = get_or_at groups group [] group (length groups) refl in
    subst IsGroup at (are.each (length groups) group (omega (arith, length_push groups group)))

pub last_stands_once : (groups : List (List ℕ)) (group : List ℕ) → AreGroups (groups ++ group ∷ []) → IsOnce (all_of groups ++ group)
last_stands_once groups group are = subst IsOnce (all_of_more groups group) are.once

-- ---- as they are held

-- there is room for one more
pub room_for_one : (held : List Group) (count : ℕ) → count < most_groups → FillsUp held count → count < length held
room_for_one held count few fills =
    omega (arith, length-drop count held, ap length fills, length-replicate (most_groups - count) no_group)

-- with one more held behind them
pub groups_in_more : (held : List Group) (count : ℕ) (group : Group) → count < length held →
    groups_in (slice_set held count group) (count + 1) ≡ groups_in held count ++ premises_in group ∷ []
groups_in_more held count group within =
    ap (map premises_in) (take_more_set held count group within) ∙ map_push premises_in (take count held) group

-- none but groups of no premise are past it
pub fills_up_more : (held : List Group) (count : ℕ) (group : Group) → count < most_groups → FillsUp held count →
    FillsUp (slice_set held count group) (count + 1)
fills_up_more held count group few fills =
    let below : count < count + 1 = omega arith in
    let left : most_groups - count - 1 ≡ most_groups - (count + 1) = omega arith in
    drop-set-lt (count + 1) held count group below ∙ sym (drop-drop 1 count held) ∙ ap (drop 1) fills
    ∙ drop-replicate 1 (most_groups - count) no_group ∙ ap (λ n. replicate n no_group) left
