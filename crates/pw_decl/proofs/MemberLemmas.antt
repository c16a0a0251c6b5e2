-- The members of a set kind, which differ.
use Rattle.std.proofs.Common.{◌≡◌, ◌↔◌, ℕ, ◌+◌, true, false, List, [], ◌∷◌, ◌++◌, None, refl, sym, ◌∙◌, inl, inr, arith}
use Rattle.std.proofs.lemmas.Bool.{cases_Bool, false≢true}
use Rattle.std.proofs.lemmas.Bool.Decides.{nat_tests}
use Rattle.std.specs.List.{list_any, position_from, AllByRecursion, IsDistinct}
use Rattle.std.specs.Str.{bytes_eq}
use Rattle.std.proofs.lemmas.Map.Keys.{IsDistinct-head, IsDistinct-tail, IsDistinct-cons}
use Rattle.std.proofs.lemmas.Slice.Eq.{bytes_eq-Decides}

-- ---- words of which one is among those after it

-- a word is not among words that all differ from it
not_among : (word : List ℕ) (words : List (List ℕ)) → AllByRecursion (λ y. bytes_eq word y ≡ false) words → list_any (bytes_eq word) words ≡ false
not_among word [] apart = refl
not_among word (other ∷ words) (here, later) = rw (here, not_among word words later)

-- words among which a word is not all differ from it
all_apart : (word : List ℕ) (words : List (List ℕ)) → list_any (bytes_eq word) words ≡ false → AllByRecursion (λ y. bytes_eq word y ≡ false) words
all_apart word [] none = tt
all_apart word (other ∷ words) none = (grind (arith, nat_tests), all_apart word words (grind (arith, nat_tests)))

-- if there is no word, all words differ
pub distinct_none : IsDistinct bytes_eq []
unfolding IsDistinct
distinct_none = tt

-- words of which the first is among the others do not all differ
pub repeats : (word : List ℕ) (words : List (List ℕ)) → list_any (bytes_eq word) words ≡ true → IsDistinct bytes_eq (word ∷ words) → ⊥
repeats word words among differ = false≢true (sym (not_among word words (IsDistinct-head bytes_eq word words differ)) ∙ among)

-- words of which the first is not among the others all differ if the others do
pub differ_where : (word : List ℕ) (words : List (List ℕ)) → list_any (bytes_eq word) words ≡ false → IsDistinct bytes_eq (word ∷ words) ↔ IsDistinct bytes_eq words
differ_where word words none = (IsDistinct-tail bytes_eq word words, IsDistinct-cons bytes_eq word words (all_apart word words none))

-- ---- one word after another

-- what holds of words holds of one in their middle
of_middle : (P : List ℕ → Type 0) (front : List (List ℕ)) (word : List ℕ) (rest : List (List ℕ)) → AllByRecursion P (front ++ word ∷ rest) → P word
of_middle P [] word rest all = all.0
of_middle P (first ∷ front) word rest all = of_middle P front word rest all.1

-- words that differ also differ in the reverse order
turned : (a b : List ℕ) → bytes_eq a b ≡ false → bytes_eq b a ≡ false
turned a b apart =
    elim (cases_Bool (bytes_eq b a)) [
      | inl same ↦ absurd (false≢true (sym apart ∙ (bytes_eq-Decides a b).1 (sym ((bytes_eq-Decides b a).0 same))))
      | inr other ↦ other
    ]

-- if words differ, none has a place among those before it
pub is_new : (front : List (List ℕ)) (word : List ℕ) (rest : List (List ℕ)) (i : ℕ) → IsDistinct bytes_eq (front ++ word ∷ rest) → position_from (bytes_eq word) i front ≡ None
is_new [] word rest i differ = refl
is_new (first ∷ front) word rest i differ =
    let apart = of_middle (λ y. bytes_eq first y ≡ false) front word rest (IsDistinct-head bytes_eq first (front ++ word ∷ rest) differ) in
    rw (turned first word apart) (is_new front word rest (i + 1) (IsDistinct-tail bytes_eq first (front ++ word ∷ rest) differ))
