-- What is written for members of a set, and what it spells.
use Rattle.std.proofs.Common.{◌≡◌, ◌≢◌, ℕ, zero, suc, ℤ, pos, negsuc, ◌+◌, ◌-◌, ◌<◌, ◌≤◌, ◌==◌, Bool, true, false, cond, List, [], ◌∷◌, ◌++◌, length, get_or, map, filter, codes, All, Some, slice_get, ◌⊎◌, inl, inr, refl, sym, ◌∙◌, ap, subst, arith, append_assoc, nat_eq, if◌then◌else◌}
use Rattle.std.specs.List.{AllPairs, IsDistinct, join_with_byte, range_with_len}
use Rattle.std.specs.Ordering.{int_eq}
use Rattle.std.proofs.lemmas.Bool.{cases_Bool, eq-eqb, eqb-true}
use Rattle.std.proofs.lemmas.Bool.Decides.{Decides-eqb, Decides-int_eq}
use Rattle.std.proofs.lemmas.List.{append-nil, map-append, map-id}
use Rattle.std.proofs.lemmas.List.Elements.{All-filter, All-tail, filter_passes}
use Rattle.std.proofs.lemmas.List.Folds.{list_any_at}
use Rattle.std.proofs.lemmas.List.FromFn.{filter_of_map_range_with_len_more, get_or-range_with_len, length-range_with_len}
use Rattle.std.proofs.lemmas.List.Kept.{AllPairs-filter}
use Rattle.std.proofs.lemmas.List.Sums.{count_by-le-length, length-filter}
use Rattle.std.proofs.lemmas.Map.Made.{IsDistinct-from_AllPairs}
use Rattle.std.proofs.lemmas.Map.Views.{any-filter_same}
use Rattle.std.proofs.lemmas.Option.{get_or_from_slice_get}
use Rattle.pw_kinds.specs.declared.members.Members.{Members}
use Rattle.pw_kinds.specs.Members.{size_of, allows, IsEmpty, IsFull}
use Rattle.pw_kinds.proofs.MemberSets.{allows_below}
use Rattle.pw_kinds.proofs.Order.{both_true, is_false, not_both, same_test, true_both}
use Rattle.pw_info.specs.declared.info.Info.TheVariants as info
use Rattle.pw_info.specs.Information.{set_kind}
use Rattle.pw_info.specs.inside.Scanning.{mark_after, opened, places_below}
use Rattle.pw_info.specs.Passing.{PassesPart, IsPassed, IsBrokenOff}
use Rattle.pw_info.specs.SetNames.{SetNames, name_at}
use Rattle.pw_info.specs.SetNames.{ArePlaces, is_one_of, text_of_set}
use Rattle.pw_info.specs.Spelling.{SpellsInfo}
use Rattle.pw_info.specs.Text.{possible_places, text_of_members, text_of_places}
use Rattle.pw_info.proofs.PassingFacts.{PassesPart-append, broken_off_then, written_then}
use Rattle.pw_info.proofs.Informations.{full_nothing}

-- ---- the possible places

-- the place at an index of the row of all places
range_at : (n k d : ℕ) → k < n → get_or (range_with_len 0 n) k d ≡ k
range_at n k d inside = get_or-range_with_len 0 n k d inside ∙ omega arith

-- what holds of each number below n holds of each place of the row
All-range : (P : ℕ → Type 0) (n : ℕ) → ((k : ℕ) → k < n → P k) → All P (range_with_len 0 n)
All-range P n each k d inside =
    let below : k < n = omega (arith, length-range_with_len 0 n) in
    subst P (sym (range_at n k d below)) (each k below)

-- and conversely
All-range-at : (P : ℕ → Type 0) (n k : ℕ) → All P (range_with_len 0 n) → k < n → P k
All-range-at P n k all below = subst P (range_at n k 0 below) (all k 0 (omega (arith, length-range_with_len 0 n)))

-- a possible place is in the row of all places
place_found : (part : Members) (v : ℤ) → allows part v ≡ true → is_one_of (range_with_len 0 (size_of part)) v ≡ true
place_found part (pos k) is =
    let row : List ℕ = range_with_len 0 (size_of part) in
    let below : k < size_of part = allows_below part k is in
    list_any_at (λ place. int_eq (pos place) (pos k)) row k 0 (omega (arith, length-range_with_len 0 (size_of part)))
    ((Decides-int_eq (pos (get_or row k 0)) (pos k)).1 (ap pos (range_at (size_of part) k 0 below)))
place_found part (negsuc k) is = absurd (not_both _ is refl)

-- a number is possible exactly if it is one of the possible places
places_allowed : (part : Members) (v : ℤ) → allows part v ≡ is_one_of (possible_places part) v
places_allowed part v =
    let kept = any-filter_same (λ place. int_eq (pos place) v) (λ place. allows part (pos place)) (allows part v)
    (λ place same. ap (allows part) ((Decides-int_eq (pos place) v).0 same)) (range_with_len 0 (size_of part)) in
    same_test (allows part v) (is_one_of (possible_places part) v)
    (λ is. kept ∙ both_true _ _ is (place_found part v is))
    (λ is. (true_both _ _ (sym kept ∙ is)).0)

-- no place of the row is there twice, so no possible place is
places_apart : (part : Members) → IsDistinct nat_eq (possible_places part)
places_apart part =
    let n : ℕ = size_of part in
    let apart : AllPairs (λ x y. x ≢ y) (range_with_len 0 n) = λ i j d before inside.
    let below : j < n = omega (arith, length-range_with_len 0 n) in
    let first = range_at n i d (omega arith) in
    let second = range_at n j d below in
    omega arith in
    IsDistinct-from_AllPairs Decides-eqb (possible_places part)
    (AllPairs-filter (λ x y. x ≢ y) (λ place. allows part (pos place)) (range_with_len 0 n) apart)

-- if there are possible places, they are places of the set
places_are : (part : Members) → 0 < length (possible_places part) → ArePlaces (size_of part) (possible_places part)
places_are part some = record {
  some = some;
  there = All-filter (λ place. allows part (pos place)) (λ place. place < size_of part) (range_with_len 0 (size_of part))
      (All-range (λ place. place < size_of part) (size_of part) (λ k below. below));
  once = places_apart part;
}

-- ---- how many places are possible

some_or_none : (places : List ℕ) → (0 < length places) ⊎ (places ≡ [])
some_or_none [] = inr refl
some_or_none (place ∷ places) = inl (omega arith)

-- with no possible place no member is possible
empty_from_places : (part : Members) → possible_places part ≡ [] → IsEmpty part
empty_from_places part none v = places_allowed part v ∙ ap (λ places. is_one_of places v) none

-- and conversely
places_from_empty : (part : Members) → IsEmpty part → possible_places part ≡ []
places_from_empty part none = elim (some_or_none (possible_places part)) [
  | inl some ↦
      let first : ℕ = get_or (possible_places part) 0 0 in
      let is : allows part (pos first) ≡ true =
      filter_passes (λ place. allows part (pos place)) (range_with_len 0 (size_of part)) 0 0 some in
      absurd (not_both _ is (none (pos first)))
  | inr is ↦ is
]

some_places : (part : Members) → (IsEmpty part → ⊥) → 0 < length (possible_places part)
some_places part possible = elim (some_or_none (possible_places part)) [
  | inl some ↦ some
  | inr none ↦ absurd (possible (empty_from_places part none))
]

-- a filter keeps no more than there is
filter_short : (p : ℕ → Bool) (xs : List ℕ) → length (filter p xs) ≤ length xs
filter_short p xs = omega (arith, length-filter p xs, count_by-le-length p xs)

-- one that keeps as many keeps them all
all_kept : (p : ℕ → Bool) (xs : List ℕ) → length (filter p xs) ≡ length xs → filter p xs ≡ xs
all_kept p [] long = refl
all_kept p (x ∷ xs) long = elim (cases_Bool (p x)) [
  | inl passes ↦ let rest = rw passes at long in rw passes (ap (λ ys. x ∷ ys) (all_kept p xs (omega arith)))
  | inr fails ↦ let short = rw fails at long in absurd (omega (arith, filter_short p xs))
]

-- one that each element passes keeps them all
all_pass : (p : ℕ → Bool) (xs : List ℕ) → All (λ x. p x ≡ true) xs → filter p xs ≡ xs
all_pass p [] every = refl
all_pass p (x ∷ xs) every =
    let here : p x ≡ true = every 0 0 (omega arith) in
    rw here (ap (λ rest. x ∷ rest) (all_pass p xs (All-tail (λ y. p y ≡ true) x xs every)))

-- if every member is possible, as many places are as the set has
length_from_full : (part : Members) → IsFull part → length (possible_places part) ≡ size_of part
length_from_full part every =
    ap length (all_pass (λ place. allows part (pos place)) (range_with_len 0 (size_of part))
    (All-range (λ place. allows part (pos place) ≡ true) (size_of part) every))
    ∙ length-range_with_len 0 (size_of part)

-- and conversely
full_from_length : (part : Members) → length (possible_places part) ≡ size_of part → IsFull part
full_from_length part long k below =
    let p : ℕ → Bool = λ place. allows part (pos place) in
    let row : List ℕ = range_with_len 0 (size_of part) in
    let same : possible_places part ≡ row = all_kept p row (long ∙ sym (length-range_with_len 0 (size_of part))) in
    All-range-at (λ place. p place ≡ true) (size_of part) k (subst (All (λ place. p place ≡ true)) same (filter_passes p row)) below

-- ---- the text of members

-- as many places as the set has are written as nothing
text_of_every : (names : List (List ℕ)) (size : ℕ) (places : List ℕ) → 0 < length places → length places ≡ size
    → text_of_places names size places ≡ codes "nothing"
text_of_every names size [] some same = absurd (omega arith)
text_of_every names size (place ∷ places) some same =
    ap (λ b. if b then codes "nothing" else text_of_set names (place ∷ places)) (eq-eqb (length (place ∷ places)) size same)

-- fewer are written as their names
text_of_fewer : (names : List (List ℕ)) (size : ℕ) (places : List ℕ) → 0 < length places → (length places == size) ≡ false
    → text_of_places names size places ≡ text_of_set names places
text_of_fewer names size [] some fewer = absurd (omega arith)
text_of_fewer names size (place ∷ places) some fewer = ap (λ b. if b then codes "nothing" else text_of_set names (place ∷ places)) fewer

-- if no member is possible
pub text_of_no_members : (names : List (List ℕ)) (part : Members) → IsEmpty part → text_of_members names part ≡ codes "contradiction"
text_of_no_members names part none = ap (text_of_places names (size_of part)) (places_from_empty part none)

-- if every member is possible
pub text_of_all_members : (names : List (List ℕ)) (part : Members) → (IsEmpty part → false ≡ true) → IsFull part
    → text_of_members names part ≡ codes "nothing"
text_of_all_members names part possible every =
    let some : 0 < length (possible_places part) = some_places part (λ none. not_both false (possible none) refl) in
    text_of_every names (size_of part) (possible_places part) some (length_from_full part every)

-- if some are and some are not
pub text_of_some_members : (names : List (List ℕ)) (part : Members) → (IsEmpty part → false ≡ true) → (IsFull part → false ≡ true)
    → text_of_members names part ≡ text_of_set names (possible_places part)
text_of_some_members names part possible lacks =
    let some : 0 < length (possible_places part) = some_places part (λ none. not_both false (possible none) refl) in
    let fewer : (length (possible_places part) == size_of part) ≡ false =
    is_false _ (λ e. not_both false (lacks (full_from_length part (eqb-true (length (possible_places part)) (size_of part) e))) refl) in
    text_of_fewer names (size_of part) (possible_places part) some fewer

-- ---- the text so far, place by place

-- the possible places below the next place
below_more : (part : Members) (n : ℕ) → places_below part (n + 1) ≡ places_below part n ++ cond (allows part (pos n)) (n ∷ []) []
below_more part n =
    let p : ℕ → Bool = λ place. allows part (pos place) in
    ap (filter p) (sym (map-id (range_with_len 0 (n + 1))))
    ∙ filter_of_map_range_with_len_more p (λ place. place) 0 n n (omega arith)
    ∙ ap (λ places. filter p places ++ cond (p n) (n ∷ []) []) (map-id (range_with_len 0 n))

-- if this place is possible
below_with : (part : Members) (n : ℕ) → allows part (pos n) ≡ true → places_below part (n + 1) ≡ places_below part n ++ (n ∷ [])
below_with part n is = below_more part n ∙ ap (λ b. places_below part n ++ cond b (n ∷ []) []) is

-- if it is not
pub below_without : (part : Members) (n : ℕ) → allows part (pos n) ≡ false → places_below part (n + 1) ≡ places_below part n
below_without part n fails =
    below_more part n ∙ ap (λ b. places_below part n ++ cond b (n ∷ []) []) fails ∙ append-nil (places_below part n)

-- one more piece is joined on by the byte between
join_more : (c : ℕ) (x : List ℕ) (xs : List (List ℕ)) (y : List ℕ)
    → join_with_byte c ((x ∷ xs) ++ (y ∷ [])) ≡ join_with_byte c (x ∷ xs) ++ (c ∷ y)
join_more c x [] y = refl
join_more c x (z ∷ xs) y = ap (λ l. x ++ (c ∷ l)) (join_more c z xs y) ∙ sym (append_assoc x (c ∷ join_with_byte c (z ∷ xs)) (c ∷ y))

-- one more member is a mark and its name
opened_more : (names : List (List ℕ)) (places : List ℕ) (place : ℕ)
    → opened names (places ++ (place ∷ [])) ≡ opened names places ++ (mark_after places ++ name_at names place)
opened_more names [] place = refl
opened_more names (first ∷ places) place =
    ap (λ pieces. codes "{" ++ join_with_byte 44 (name_at names first ∷ pieces)) (map-append (name_at names) places (place ∷ []))
    ∙ ap (λ text. codes "{" ++ text) (join_more 44 (name_at names first) (map (name_at names) places) (name_at names place))

-- what is written when a possible place is passed
opened_with : (names : List (List ℕ)) (part : Members) (n : ℕ) → allows part (pos n) ≡ true
    → opened names (places_below part (n + 1)) ≡ opened names (places_below part n) ++ (mark_after (places_below part n) ++ name_at names n)
opened_with names part n is = ap (opened names) (below_with part n is) ∙ opened_more names (places_below part n) n

-- the same by the mark and the name that the code has
opened_by : (names : List (List ℕ)) (part : Members) (n : ℕ) (mark name : List ℕ) → allows part (pos n) ≡ true
    → mark ≡ mark_after (places_below part n) → slice_get names n ≡ Some name
    → opened names (places_below part (n + 1)) ≡ opened names (places_below part n) ++ (mark ++ name)
opened_by names part n mark name is before named =
    opened_with names part n is
    ∙ ap (λ text. opened names (places_below part n) ++ (mark_after (places_below part n) ++ text)) (get_or_from_slice_get names n name [] named)
    ∙ ap (λ text. opened names (places_below part n) ++ (text ++ name)) (sym before)

-- a comma comes after a name
mark_more : (places : List ℕ) (place : ℕ) → mark_after (places ++ (place ∷ [])) ≡ codes ","
mark_more [] place = refl
mark_more (first ∷ places) place = refl

pub mark_with : (part : Members) (n : ℕ) → allows part (pos n) ≡ true → mark_after (places_below part (n + 1)) ≡ codes ","
mark_with part n is = ap mark_after (below_with part n is) ∙ mark_more (places_below part n) n

-- the whole text is what is written when all places are passed, and the brace
closed : (names : List (List ℕ)) (places : List ℕ) → 0 < length places → text_of_set names places ≡ opened names places ++ codes "}"
closed names [] some = absurd (omega arith)
closed names (place ∷ places) some = refl

pub closed_at : (names : List (List ℕ)) (part : Members) (n : ℕ) → n ≡ size_of part → (IsEmpty part → ⊥)
    → text_of_set names (possible_places part) ≡ opened names (places_below part n) ++ codes "}"
closed_at names part n end possible =
    closed names (possible_places part) (some_places part possible) ∙ ap (λ size. opened names (places_below part size) ++ codes "}") (sym end)

-- ---- a front of the text

-- what is written when one more place is passed begins with what was written before
opened_longer : (names : List (List ℕ)) (part : Members) (n : ℕ)
    → (rest : List ℕ) × (opened names (places_below part (n + 1)) ≡ opened names (places_below part n) ++ rest)
opened_longer names part n = elim (cases_Bool (allows part (pos n))) [
  | inl is ↦ (mark_after (places_below part n) ++ name_at names n, opened_with names part n is)
  | inr fails ↦ ([], ap (opened names) (below_without part n fails) ∙ sym (append-nil (opened names (places_below part n))))
]

module _ {S : Type 0} (passes : S → List ℕ → S → Type 0) (s t : S) (names : List (List ℕ)) (part : Members) where
  -- a front of what is written up to a place is a front of what is written up to a later one
  front_longer : (n more later : ℕ) → n + more ≡ later → PassesPart passes s t (opened names (places_below part n))
      → PassesPart passes s t (opened names (places_below part later))
  front_longer n zero later is front =
      let same : n ≡ later = omega arith in
      subst (λ place. PassesPart passes s t (opened names (places_below part place))) same front
  front_longer n (suc more) later is front =
      let (rest, longer) = opened_longer names part (n + more) in
      let step : n + more + 1 ≡ later = omega arith in
      subst (λ place. PassesPart passes s t (opened names (places_below part place))) step
      (subst (PassesPart passes s t) (sym longer)
      (PassesPart-append passes s t (opened names (places_below part (n + more))) rest (front_longer n more (n + more) refl front)))

  -- and so a front of the whole text
  front_of_set : (n : ℕ) → n ≤ size_of part → (IsEmpty part → ⊥) → PassesPart passes s t (opened names (places_below part n))
      → PassesPart passes s t (text_of_set names (possible_places part))
  front_of_set n within possible front =
      subst (PassesPart passes s t) (sym (closed_at names part (size_of part) refl possible))
      (PassesPart-append passes s t (opened names (places_below part (size_of part))) (codes "}")
      (front_longer n (size_of part - n) (size_of part) (omega arith) front))

-- ---- one more name is written

module _ {S : Type 0} (passes : S → List ℕ → S → Type 0) (has_failed : S → Bool)
    (joins : (s t u : S) (xs ys : List ℕ) → passes s xs t → passes t ys u → passes s (xs ++ ys) u)
    (s t u : S) (names : List (List ℕ)) (part : Members) (n : ℕ) (mark name : List ℕ)
    (is : allows part (pos n) ≡ true) (before : mark ≡ mark_after (places_below part n)) (named : slice_get names n ≡ Some name)
    (so_far : IsPassed passes has_failed s t (opened names (places_below part n))) where
  -- the whole of it, behind what is written
  pub written_more : IsPassed passes has_failed t u (mark ++ name) → IsPassed passes has_failed s u (opened names (places_below part (n + 1)))
  written_more more =
      subst (IsPassed passes has_failed s u) (sym (opened_by names part n mark name is before named))
      (written_then passes has_failed joins s t u (opened names (places_below part n)) (mark ++ name) so_far more)

  -- a front of it
  pub broken_off_more : n < size_of part → IsBrokenOff passes has_failed t u (mark ++ name)
      → IsBrokenOff passes has_failed s u (text_of_set names (possible_places part))
  broken_off_more below broken =
      let both = broken_off_then passes has_failed joins s t u (opened names (places_below part n)) (mark ++ name) so_far broken in
      record {
        front = front_of_set passes s u names part (n + 1) (omega arith) (λ none. not_both _ is (none (pos n)))
            (subst (PassesPart passes s u) (sym (opened_by names part n mark name is before named)) both.front);
        failed = both.failed;
      }

-- ---- what is written spells what it was written for

pub members_spelled : (sets : SetNames) (number : ℕ) (part : Members)
    → SpellsInfo sets (text_of_members (sets number) part) (set_kind number part) (info.Members number part)
members_spelled sets number part = elim (some_or_none (possible_places part)) [
  | inr none ↦
      let empty = empty_from_places part none in
      (refl, inr (inl (text_of_no_members (sets number) part empty, empty)))
  | inl some ↦ elim (cases_Bool (length (possible_places part) == size_of part)) [
    | inl long ↦
        let same : length (possible_places part) ≡ size_of part = eqb-true (length (possible_places part)) (size_of part) long in
        (refl, inl (text_of_every (sets number) (size_of part) (possible_places part) some same, full_nothing number part (full_from_length part same)))
    | inr fewer ↦
        let text = text_of_fewer (sets number) (size_of part) (possible_places part) some fewer in
        (refl, inr (inr (possible_places part, places_are part some, text, places_allowed part)))
  ]
]
