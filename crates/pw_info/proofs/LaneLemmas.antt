-- From the mask of bytes that are tested together to the bytes before the first that ends a run,
-- and on from run to run.
use Rattle.std.proofs.Common.{◌≡◌, ℕ, suc, ◌+◌, ◌%◌, ◌^◌, ◌<◌, ◌≤◌, cond, eqb, Bool, true, false, not, List, [], ◌∷◌, map, length, get_or, drop, drop-cons, length-drop, Fits, w8, refl, sym, ap, ◌∙◌, subst, arith, inl, inr}
use Rattle.std.proofs.lemmas.Bool.{agree_below, agree_below_at, cases_Bool, cases_eq, eq-eqb, ne_eqb, cond-true, cond-false}
use Rattle.std.proofs.lemmas.Simd.{map-map, mask_l-mod, length-chunk, get_or-chunk, chunk-drop, leading_from_mask_l, trailing_mask_l}
use Rattle.std.proofs.lemmas.List.{length-map}
use Rattle.std.proofs.lemmas.List.Sums.{prefix_len-le-length}
use Rattle.std.proofs.lemmas.List.Folds.{prefix_len-append}
use Rattle.std.specs.List.{prefix_len}
use lib.Lanes.{chunk, mask_l, top}
use Rattle.std.specs.Prelude.{Some, None, IfSome}
use Rattle.std.proofs.lemmas.Option.{none-some, same_Some}
use Rattle.pw_info.specs.inside.Scanning.{lowest_set, short_of}

-- ---- a mask

-- If a bit is set, a lane passes the test.
some_short : (p : ℕ → Bool) (v : List ℕ) → 0 < mask_l (map p v) → prefix_len (λ x. not (p x)) v < length v
some_short p [] some = absurd (omega (arith, some))
some_short p (x ∷ v) some = elim (cases_Bool (p x)) [
  | inl passes ↦ rw passes (omega arith)
  | inr fails ↦ let rest = rw fails at some in
      rw fails (let shorter = some_short p v (omega (arith, rest)) in omega (arith, shorter))
]

-- The lowest bit of a mask is that of the first lane that passes the test.
lowest_is : (p : ℕ → Bool) (v : List ℕ) (n : ℕ) → length v ≡ n → n ≤ 64 → lowest_set (mask_l (map p v)) ≡ short_of n (prefix_len (λ x. not (p x)) v)
lowest_is p v n long few =
    elim (cases_eq (mask_l (map p v)) 0) [
      | inl none ↦ let all : prefix_len (λ x. not (p x)) v ≡ n = leading_from_mask_l p v none ∙ long in
          rw (eq-eqb _ _ none, eq-eqb _ _ all) refl
      | inr some ↦ let short = some_short p v (omega (arith, some)) in
          let few_enough : length v ≤ 64 = omega (arith, long, few) in
          rw (ne_eqb _ _ some, ne_eqb _ _ (λ (all : prefix_len (λ x. not (p x)) v ≡ n). omega (arith, all, short, long)))
          (ap (λ (k : ℕ). Some k) (trailing_mask_l p 64 v few_enough (omega (arith, some))))
    ]

-- Tests that agree on bytes count the same run of them.
same_run : (p q : ℕ → Bool) (v : List ℕ) → agree_below p q 256 ≡ true → ((k : ℕ) → k < length v → get_or v k 0 < 256) → prefix_len p v ≡ prefix_len q v
same_run p q [] agree bytes = refl
same_run p q (x ∷ v) agree bytes =
    rw (agree_below_at p q 256 x agree (bytes 0 (omega arith)), same_run p q v agree (λ k within. bytes (suc k) (omega arith))) refl

-- The lowest bit of what is computed lane by lane from a run of bytes: how many come before the
-- first at which a lane's top bit is set.
pub lowest_of : (q : ℕ → Bool) (bytes : List ℕ) (at n : ℕ) (z : List ℕ) (f : ℕ → ℕ) → at + n ≤ length bytes → n ≤ 64 → ((k : ℕ) → Fits w8 (get_or bytes k 0))
    → z ≡ map f (chunk at n bytes) → agree_below (λ x. not (top 7 (f x))) q 256 ≡ true
    → lowest_set (mask_l (map (top 7) z) % 2 ^ 64) ≡ short_of n (prefix_len q (chunk at n bytes))
lowest_of q bytes at n z f room few fits lanes agree =
    let v = chunk at n bytes in
    let long = length-chunk at n bytes room in
    let stops : ℕ → Bool = λ x. top 7 (f x) in
    let mask = ap (λ l. mask_l l % 2 ^ 64) (ap (map (top 7)) lanes ∙ map-map (top 7) f v) ∙ mask_l-mod (map stops v) 64 (omega (arith, length-map v stops, long)) in
    ap lowest_set mask ∙ lowest_is stops v n long few
    ∙ ap (short_of n) (same_run (λ x. not (stops x)) q v agree (λ k within. subst (λ x. x < 256) (sym (get_or-chunk at n bytes k 0 (omega (arith, long)))) (fits (at + k)).fits))

-- ---- from run to run

-- A run goes on after the bytes that were tested together if all of them are of it.
run_on : (p : ℕ → Bool) (bytes : List ℕ) (at n : ℕ) → at + n ≤ length bytes →
    prefix_len p (drop at bytes) ≡ cond (eqb (prefix_len p (chunk at n bytes)) n) (n + prefix_len p (drop (at + n) bytes)) (prefix_len p (chunk at n bytes))
run_on p bytes at n room =
    let split = ap (prefix_len p) (chunk-drop at n bytes) ∙ prefix_len-append p (chunk at n bytes) (drop (at + n) bytes) in
    rw (length-chunk at n bytes room) at split

-- It is one of their places.
pub run_within : (p : ℕ → Bool) (bytes : List ℕ) (at n : ℕ) → at + n ≤ length bytes → IfSome (short_of n (prefix_len p (chunk at n bytes))) (λ run. run < n)
run_within p bytes at n room =
    elim (cases_eq (prefix_len p (chunk at n bytes)) n) [
      | inl all ↦ rw (eq-eqb _ _ all) tt
      | inr other ↦ rw (ne_eqb _ _ other) (omega (arith, other, length-chunk at n bytes room, prefix_len-le-length p (chunk at n bytes)))
    ]

-- What is short of all bytes is where the run ends.
pub run_ends : (p : ℕ → Bool) (bytes : List ℕ) (at n r : ℕ) → at + n ≤ length bytes → short_of n (prefix_len p (chunk at n bytes)) ≡ Some r
    → prefix_len p (drop at bytes) ≡ r
run_ends p bytes at n r room short =
    elim (cases_eq (prefix_len p (chunk at n bytes)) n) [
      | inl all ↦ absurd (none-some _ (sym (cond-true _ _ _ (eq-eqb _ _ all)) ∙ short))
      | inr other ↦ run_on p bytes at n room ∙ cond-false _ _ _ (ne_eqb _ _ other) ∙ same_Some _ _ (sym (cond-false _ _ _ (ne_eqb _ _ other)) ∙ short)
    ]

pub run_goes_on : (p : ℕ → Bool) (bytes : List ℕ) (at n : ℕ) → at + n ≤ length bytes → short_of n (prefix_len p (chunk at n bytes)) ≡ None
    → prefix_len p (drop at bytes) ≡ n + prefix_len p (drop (at + n) bytes)
run_goes_on p bytes at n room whole =
    elim (cases_eq (prefix_len p (chunk at n bytes)) n) [
      | inl all ↦ run_on p bytes at n room ∙ cond-true _ _ _ (eq-eqb _ _ all)
      | inr other ↦ absurd (none-some _ (sym whole ∙ cond-false _ _ _ (ne_eqb _ _ other)))
    ]

-- so many bytes at the front are in the run, and it goes on with those behind them as from there
abbrev pub IsInRun : (ℕ → Bool) → List ℕ → ℕ → Type 0
IsInRun p bytes end = (end ≤ length bytes) × (prefix_len p bytes ≡ end + prefix_len p (drop end bytes))

-- the bytes from a place on begin with the byte at that place
first_behind : (bytes : List ℕ) (end : ℕ) → end < length bytes → drop end bytes ≡ get_or bytes end 0 ∷ drop (end + 1) bytes
first_behind bytes end within =
    let next : suc end ≡ end + 1 = omega arith in
    drop-cons bytes end 0 within ∙ ap (λ (n : ℕ). get_or bytes end 0 ∷ drop n bytes) next

-- A byte of the run lies in it.
pub one_more_in_run : (p : ℕ → Bool) (bytes : List ℕ) (end : ℕ) → end < length bytes → p (get_or bytes end 0) ≡ true
    → IsInRun p bytes end → IsInRun p bytes (end + 1)
one_more_in_run p bytes end within passes (most, run) =
    let cut = first_behind bytes end within in
    let more : prefix_len p (drop end bytes) ≡ 1 + prefix_len p (drop (end + 1) bytes) = rw (cut, passes) refl in
    (omega (arith, within), omega (arith, run, more))

-- The run ends where the bytes do.
pub run_at_end : (p : ℕ → Bool) (bytes : List ℕ) (end : ℕ) → length bytes ≤ end → IsInRun p bytes end → end ≡ prefix_len p bytes
run_at_end p bytes end last (most, run) =
    omega (arith, last, run, prefix_len-le-length p (drop end bytes), length-drop end bytes)

-- And at a byte that is not of it.
pub run_stops : (p : ℕ → Bool) (bytes : List ℕ) (end : ℕ) → end < length bytes → p (get_or bytes end 0) ≡ false
    → IsInRun p bytes end → end ≡ prefix_len p bytes
run_stops p bytes end within fails (most, run) =
    let cut = first_behind bytes end within in
    let none : prefix_len p (drop end bytes) ≡ 0 = rw (cut, fails) refl in
    omega (arith, run, none)
