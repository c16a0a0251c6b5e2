-- How many numbers pass a test: fewer pass a stricter one, or it is the same test.
use Rattle.std.proofs.Common.{◌≡◌, ℕ, zero, suc, ◌<◌, ◌≤◌, ℤ, pos, ◌+ℤ◌, ◌≤ℤ◌, ◌<ℤ◌, Bool, true, false, cond, ◌⊎◌, inl, inr, refl, arith, subst}
use Rattle.std.proofs.lemmas.Int.{ints, by_lt_z}
use Rattle.pw_kinds.specs.Ranges.{count}

one_most : (b : Bool) → cond b 1 0 ≤ 1
one_most true = omega arith
one_most false = omega arith

-- no more pass than there are
pub count_most : (p : ℤ → Bool) (n : ℕ) (v : ℤ) → count p n v ≤ n
unfolding count
count_most p zero v = omega arith
count_most p (suc n) v = omega (arith, one_most (p v), count_most p n (v +ℤ pos 1))

one_less : (a b : Bool) → (a ≡ true → b ≡ true) → cond a 1 0 ≤ cond b 1 0
one_less true true more = omega arith
one_less true false more = absurd (let e = more refl in cc)
one_less false b more = omega arith

one_gain : (a b : Bool) → (a ≡ true → b ≡ true) → (a ≡ b) ⊎ (cond a 1 0 < cond b 1 0)
one_gain true true more = inl refl
one_gain true false more = absurd (let e = more refl in cc)
one_gain false true more = inr (omega arith)
one_gain false false more = inl refl

-- no more pass a stricter test
pub count_less : (p q : ℤ → Bool) → ((v : ℤ) → p v ≡ true → q v ≡ true) → (n : ℕ) (v : ℤ) → count p n v ≤ count q n v
unfolding count
count_less p q more zero v = omega arith
count_less p q more (suc n) v = omega (arith, one_less (p v) (q v) (more v), count_less p q more n (v +ℤ pos 1))

-- two tests agree on the n numbers from v up
abbrev pub AgreeFrom : (ℤ → Bool) → (ℤ → Bool) → ℕ → ℤ → Type 0
AgreeFrom p q n v = (w : ℤ) → v ≤ℤ w → w <ℤ (v +ℤ pos n) → p w ≡ q w

agree_more : (p q : ℤ → Bool) (n : ℕ) (v : ℤ) → p v ≡ q v → AgreeFrom p q n (v +ℤ pos 1) → AgreeFrom p q (suc n) v
agree_more p q n v here rest w low high = by_lt_z v w
    (λ l. rest w (omega (arith, ints)) (omega (arith, ints)))
    (λ l. let same : v ≡ w = omega (arith, ints) in subst (λ (x : ℤ). p x ≡ q x) same here)

-- fewer pass a stricter test, where the two do not agree
pub count_gain : (p q : ℤ → Bool) → ((v : ℤ) → p v ≡ true → q v ≡ true) → (n : ℕ) (v : ℤ) → AgreeFrom p q n v ⊎ (count p n v < count q n v)
unfolding count
count_gain p q more zero v = inl (λ w low high. absurd (omega (arith, ints)))
count_gain p q more (suc n) v = elim (one_gain (p v) (q v) (more v)) [
  | inl same ↦ elim (count_gain p q more n (v +ℤ pos 1)) [
    | inl agree ↦ inl (agree_more p q n v same agree)
    | inr fewer ↦ inr (omega (arith, one_less (p v) (q v) (more v), fewer))
  ]
  | inr fewer ↦ inr (omega (arith, fewer, count_less p q more n (v +ℤ pos 1)))
]

one_where : (b : Bool) → b ≡ true → 1 ≤ cond b 1 0
one_where true e = omega arith
one_where false e = absurd (cc)

none_where : (b : Bool) → b ≡ false → cond b 1 0 ≤ 0
none_where true e = absurd (cc)
none_where false e = omega arith

-- if all pass, as many pass as there are
pub count_all : (p : ℤ → Bool) (n : ℕ) (v : ℤ) → ((w : ℤ) → v ≤ℤ w → w <ℤ (v +ℤ pos n) → p w ≡ true) → count p n v ≡ n
unfolding count
count_all p zero v every = refl
count_all p (suc n) v every =
    let here = one_where (p v) (every v (omega (arith, ints)) (omega (arith, ints))) in
    omega (arith, here, one_most (p v), count_all p n (v +ℤ pos 1) (λ w low high. every w (omega (arith, ints)) (omega (arith, ints))))

-- if none passes, none is counted
pub count_none : (p : ℤ → Bool) (n : ℕ) (v : ℤ) → ((w : ℤ) → p w ≡ false) → count p n v ≡ 0
unfolding count
count_none p zero v never = refl
count_none p (suc n) v never =
    omega (arith, none_where (p v) (never v), count_none p n (v +ℤ pos 1) never)
