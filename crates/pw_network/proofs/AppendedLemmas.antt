-- An instance that is appended to the lists of cells, one after another, and once to each; or to one list.
use Rattle.std.proofs.Common.{◌≡◌, ℕ, ◌+◌, ◌<◌, inl, inr, Bool, true, false, ◌||◌, cond, List, [], ◌∷◌, ◌++◌, length, take, get_or, eqb, refl, sym, ap, ◌∙◌, append-nil, append_assoc, eq-eqb, arith}
use Rattle.std.specs.List.{list_any}
use Rattle.std.proofs.lemmas.Bool.{ne_eqb}
use Rattle.std.proofs.lemmas.Bool.Decides.{eqb_tells}
use Rattle.std.proofs.lemmas.List.Folds.{list_any_more}
use Rattle.pw_network.specs.inside.Lists.{AddsNumber, AddsNumberTo, Listed, numbers_for}
use Rattle.pw_network.proofs.LinkLemmas.{number_other, numbers_push}

-- the number, where this is so
abbrev once : ℕ → Bool → List ℕ
once number b = cond b (number ∷ []) []

once_new : (number : ℕ) (b t : Bool) → (t ≡ true → b ≡ false) → once number b ++ once number t ≡ once number (b || t)
once_new number true true new = absurd (let e = new refl in cc)
once_new number true false new = refl
once_new number false t new = refl

pub eqb_after : (n a b : ℕ) → eqb (n + a) (n + b) ≡ eqb a b
eqb_after n a b =
    elim (eqb_tells a b) [
      | inl is ↦ eq-eqb (n + a) (n + b) (ap (λ k. n + k) is.1) ∙ sym is.0
      | inr differs ↦ ne_eqb (n + a) (n + b) (λ same. differs.1 (omega (arith, same))) ∙ sym differs.0
    ]

module _ (base count number : ℕ) (cells : List ℕ) (place cell : ℕ) (there : place < length cells) (read : get_or cells place 0 ≡ cell)
    (old now : List Listed) (so_far : AddsNumber base count (take place cells) number old now) where
  one_more : (c : ℕ) → list_any (eqb c) (take (place + 1) cells) ≡ (list_any (eqb c) (take place cells) || eqb c cell)
  one_more c = list_any_more (eqb c) cells place 0 there ∙ ap (λ n. list_any (eqb c) (take place cells) || eqb c n) read

  -- a cell that was not named before
  pub appended_now : (after : List Listed) → cell < count → list_any (eqb cell) (take place cells) ≡ false → after ≡ now ++ record { list = base + cell; number = number } ∷ [] →
      AddsNumber base count (take (place + 1) cells) number old after
  appended_now after within fresh pushed =
      let x : Listed = record { list = base + cell; number = number } in
      let other : (list : ℕ) → (base + cell ≡ list → ⊥) → numbers_for list now ≡ numbers_for list old → numbers_for list after ≡ numbers_for list old =
      λ list differs same. ap (numbers_for list) pushed ∙ numbers_push list now x ∙ ap (λ l. numbers_for list now ++ l) (number_other list x differs)
      ∙ append-nil (numbers_for list now) ∙ same in
      record {
        own = λ c below.
            let new : eqb c cell ≡ true → list_any (eqb c) (take place cells) ≡ false = λ same. elim (eqb_tells c cell) [
              | inl is ↦ ap (λ n. list_any (eqb n) (take place cells)) is.1 ∙ fresh
              | inr differs ↦ absurd (let e = sym same ∙ differs.0 in cc)
            ] in
            ap (numbers_for (base + c)) pushed ∙ numbers_push (base + c) now x
            ∙ (λ i. so_far.own c below i ++ once number (eqb_after base c cell i))
            ∙ append_assoc (numbers_for (base + c) old) (once number (list_any (eqb c) (take place cells))) (once number (eqb c cell))
            ∙ ap (λ l. numbers_for (base + c) old ++ l)
            (once_new number (list_any (eqb c) (take place cells)) (eqb c cell) new
            ∙ ap (once number) (sym (one_more c)));
        before = λ list below. other list (λ is. omega (arith, is, below)) (so_far.before list below);
        after = λ list past. other list (λ is. omega (arith, is, past, within)) (so_far.after list past);
      }

-- ---- one list

-- what is pushed for a list is added to it
pub added_one : (lists list number : ℕ) (old new : List Listed) → new ≡ old ++ record { list = list; number = number } ∷ [] → AddsNumberTo lists list number old new
added_one lists list number old new pushed other within =
    let x : Listed = record { list = list; number = number } in
    ap (numbers_for other) pushed ∙ numbers_push other old x
