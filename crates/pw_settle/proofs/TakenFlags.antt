-- Flags of which one is cleared.
use Rattle.std.proofs.Common.{◌≡◌, ◌≢◌, ℕ, ◌+◌, ◌<◌, suc, Bool, true, false, cond, eqb, inl, inr, List, [], ◌∷◌, length, set, get_or, refl, sym, ap, ◌∙◌, arith}
use Rattle.std.specs.Prelude.{nat_lt}
use Rattle.std.proofs.lemmas.Bool.{cases_Bool, eqb-false, eqb-true, ltb-true, ltb-false}
use Rattle.std.proofs.lemmas.List.{get_or_past, get_or-set_other}
use Rattle.std.proofs.lemmas.List.Sums.{sum_by-cons, sum_by-set}
use Rattle.pw_settle.specs.Calls.{is_set, tally}

-- a flag that is set is one of them
pub set_below : (flags : List Bool) (number : ℕ) → is_set flags number ≡ true → number < length flags
set_below flags number flag =
    elim (cases_Bool (nat_lt number (length flags))) [
      | inl below ↦ ltb-true number (length flags) below
      | inr past ↦ let none = get_or_past flags number false (ltb-false number (length flags) past) in absurd (cc)
    ]

-- the others are unchanged
pub taken_others : (flags taken : List Bool) (one number : ℕ) → taken ≡ set flags one false → number ≢ one → is_set taken number ≡ false →
    is_set flags number ≡ false
taken_others flags taken one number is other free =
    sym (ap (λ (l : List Bool). is_set l number) is ∙ get_or-set_other flags one number false false other) ∙ free

-- what is set afterwards was set
pub taken_were : (flags taken : List Bool) (one number : ℕ) → taken ≡ set flags one false → is_set flags one ≡ true → is_set taken number ≡ true → is_set flags number ≡ true
taken_were flags taken one number is flag now =
    elim (cases_Bool (is_set flags number)) [
      | inl was ↦ was
      | inr not ↦ elim (cases_Bool (eqb number one)) [
        | inl same ↦ ap (is_set flags) (eqb-true number one same) ∙ flag
        | inr other ↦ sym (ap (λ (l : List Bool). is_set l number) is ∙ get_or-set_other flags one number false false (eqb-false number one other)) ∙ now
      ]
    ]

-- and there is one less
pub taken_less : (flags taken : List Bool) (one : ℕ) → taken ≡ set flags one false → is_set flags one ≡ true → tally taken + 1 ≡ tally flags
taken_less flags taken one is flag =
    let sums = sum_by-set (λ b. cond b 1 0) flags one false false (set_below flags one flag) in
    let one_set : ℕ = cond (get_or flags one false) 1 0 in
    let single : ℕ = 1 in
    let was : one_set ≡ single = ap (λ b. cond b 1 0) flag in
    let now = ap tally is in
    omega (arith, sums, was, now)

-- if none is set there is none to count
pub tally_none : (flags : List Bool) → ((number : ℕ) → is_set flags number ≡ false) → tally flags ≡ 0
tally_none [] none = refl
tally_none (flag ∷ flags) none =
    let one_flag : ℕ = cond flag 1 0 in
    let zero_flags : ℕ = 0 in
    let first : one_flag ≡ zero_flags = ap (λ b. cond b 1 0) (none 0) in
    omega (arith, sum_by-cons (λ b. cond b 1 0) flag flags, first, tally_none flags (λ number. none (suc number)))
