-- The names of premises, written one after another.
use Rattle.std.proofs.Common.{◌≡◌, ℕ, zero, suc, ◌+◌, true, false, cond, List, [], ◌∷◌, ◌++◌, length, Some, slice_get, refl, sym, ap, ◌∙◌, append-nil, append_assoc, arith}
use Rattle.std.specs.Prelude.{filter, map}
use Rattle.std.specs.FinSet.{contains}
use Rattle.std.specs.List.{flat_map, range_with_len}
use Rattle.std.proofs.lemmas.Grind.{flat_map-append}
use Rattle.std.proofs.lemmas.List.{map-append}
use Rattle.std.proofs.lemmas.List.Elements.{filter-append}
use Rattle.std.proofs.lemmas.Option.{get_or_from_slice_get}
use Rattle.pw_info.specs.SetNames.{name_at}
use Rattle.pw_premises.specs.Premises.{Premises}
use Rattle.pw_decl.specs.Declaration.{Declared}
use Rattle.pw_transcript.specs.ReplyText.{after_space, premise_names, text_of_names}
use Rattle.pw_transcript.specs.inside.Gathering.{has_some, names_below}

-- a row of numbers is a first part of it and what follows
range_parts : (a n more : ℕ) → range_with_len a (n + more) ≡ range_with_len a n ++ range_with_len (a + n) more
range_parts a zero more =
    let none : 0 + more ≡ more = omega arith in
    let here : a ≡ a + 0 = omega arith in
    ap (range_with_len a) none ∙ ap (λ from. range_with_len from more) here
range_parts a (suc n) more =
    let all : suc n + more ≡ suc (n + more) = omega arith in
    let next : a + 1 + n ≡ a + suc n = omega arith in
    ap (range_with_len a) all
    ∙ ap (λ l. a ∷ l) (range_parts (a + 1) n more ∙ ap (λ from. range_with_len (a + 1) n ++ range_with_len from more) next)

-- so is the row of the first numbers
first_parts : (n more : ℕ) → range_with_len 0 (n + more) ≡ range_with_len 0 n ++ range_with_len n more
first_parts n more =
    let here : 0 + n ≡ n = omega arith in
    range_parts 0 n more ∙ ap (λ from. range_with_len 0 n ++ range_with_len from more) here

-- names of which the last is this one are written with it at the end
pub with_name : (names : List (List ℕ)) (name : List ℕ) → flat_map after_space (names ++ name ∷ []) ≡ flat_map after_space names ++ after_space name
with_name names name =
    flat_map-append after_space names (name ∷ []) ∙ ap (λ l. flat_map after_space names ++ l) (append-nil (after_space name))

-- names among which is this one are written in a row
in_a_row : (names : List (List ℕ)) (name : List ℕ) (rest : List (List ℕ)) →
    text_of_names (names ++ name ∷ rest) ≡ (flat_map after_space names ++ after_space name) ++ flat_map after_space rest
in_a_row [] name rest = refl
in_a_row (first ∷ names) name rest =
    flat_map-append after_space (first ∷ names) (name ∷ rest)
    ∙ sym (append_assoc (flat_map after_space (first ∷ names)) (after_space name) (flat_map after_space rest))

some_with : (names : List (List ℕ)) (name : List ℕ) → has_some (names ++ name ∷ []) ≡ true
some_with [] name = refl
some_with (first ∷ names) name = refl

-- if there is one, names are written in a row
pub text_of_some : (names : List (List ℕ)) → has_some names ≡ true → text_of_names names ≡ flat_map after_space names
text_of_some [] some = absurd (cc)
text_of_some (first ∷ names) some = refl

-- if there is none, that is written
pub text_of_none : (names : List (List ℕ)) → has_some names ≡ false → (names ≡ []) × (text_of_names names ≡ text_of_names [])
text_of_none [] none = (refl, refl)
text_of_none (first ∷ names) none = absurd (cc)

module _ (d : Declared) (premises : Premises) (number : ℕ) where
  -- one more number
  below_more : names_below d premises (number + 1) ≡ names_below d premises number ++ map (name_at d.premises) (cond (contains premises number) (number ∷ []) [])
  below_more =
      ap (λ row. map (name_at d.premises) (filter (contains premises) row)) (first_parts number 1)
      ∙ ap (map (name_at d.premises)) (filter-append (contains premises) (range_with_len 0 number) (number ∷ []))
      ∙ map-append (name_at d.premises) (filter (contains premises) (range_with_len 0 number)) (cond (contains premises number) (number ∷ []) [])

  -- of a premise that is not among them
  pub below_without : contains premises number ≡ false → names_below d premises (number + 1) ≡ names_below d premises number
  below_without out =
      below_more ∙ ap (λ b. names_below d premises number ++ map (name_at d.premises) (cond b (number ∷ []) [])) out
      ∙ append-nil (names_below d premises number)

  -- of one that is, by the name that the code has
  pub below_with : (name : List ℕ) → contains premises number ≡ true → slice_get d.premises number ≡ Some name →
      names_below d premises (number + 1) ≡ names_below d premises number ++ name ∷ []
  below_with name in_it named =
      below_more ∙ ap (λ b. names_below d premises number ++ map (name_at d.premises) (cond b (number ∷ []) [])) in_it
      ∙ ap (λ n. names_below d premises number ++ n ∷ []) (get_or_from_slice_get d.premises number name [] named)

  -- what is written then
  pub written_with : (name : List ℕ) → contains premises number ≡ true → slice_get d.premises number ≡ Some name →
      flat_map after_space (names_below d premises (number + 1)) ≡ flat_map after_space (names_below d premises number) ++ after_space name
  written_with name in_it named = ap (flat_map after_space) (below_with name in_it named) ∙ with_name (names_below d premises number) name

  pub some_below : (name : List ℕ) → contains premises number ≡ true → slice_get d.premises number ≡ Some name →
      has_some (names_below d premises (number + 1)) ≡ true
  some_below name in_it named = ap has_some (below_with name in_it named) ∙ some_with (names_below d premises number) name

  -- all names are those below a number and those from it on
  names_parts : (more : ℕ) → number + more ≡ length d.premises →
      premise_names d premises ≡ names_below d premises number ++ map (name_at d.premises) (filter (contains premises) (range_with_len number more))
  names_parts more all =
      ap (λ n. names_below d premises n) (sym all)
      ∙ ap (λ row. map (name_at d.premises) (filter (contains premises) row)) (first_parts number more)
      ∙ ap (map (name_at d.premises)) (filter-append (contains premises) (range_with_len 0 number) (range_with_len number more))
      ∙ map-append (name_at d.premises) (filter (contains premises) (range_with_len 0 number)) (filter (contains premises) (range_with_len number more))

  -- so what is written with one more name is a front of the whole
  pub whole_from : (name : List ℕ) (more : ℕ) → number + suc more ≡ length d.premises → contains premises number ≡ true →
      slice_get d.premises number ≡ Some name →
      text_of_names (premise_names d premises)
      ≡ (flat_map after_space (names_below d premises number) ++ after_space name)
      ++ flat_map after_space (map (name_at d.premises) (filter (contains premises) (range_with_len (number + 1) more)))
  whole_from name more all in_it named =
      let rest = map (name_at d.premises) (filter (contains premises) (range_with_len (number + 1) more)) in
      let first : map (name_at d.premises) (filter (contains premises) (range_with_len number (suc more))) ≡ name_at d.premises number ∷ rest =
      ap (λ b. map (name_at d.premises) (cond b (number ∷ filter (contains premises) (range_with_len (number + 1) more)) (filter (contains premises) (range_with_len (number + 1) more)))) in_it in
      ap text_of_names
      (names_parts (suc more) all
      ∙ ap (λ l. names_below d premises number ++ l) first
      ∙ ap (λ n. names_below d premises number ++ n ∷ rest) (get_or_from_slice_get d.premises number name [] named))
      ∙ in_a_row (names_below d premises number) name rest

  -- those below the number of all are all
  pub names_at_end : number ≡ length d.premises → names_below d premises number ≡ premise_names d premises
  names_at_end end = ap (names_below d premises) end
