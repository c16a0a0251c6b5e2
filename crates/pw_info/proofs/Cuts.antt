-- A text that is cut at the first of some byte.
use Rattle.std.proofs.Common.{◌≡◌, ◌≢◌, ℕ, suc, List, [], ◌∷◌, ◌++◌, slice_index, EachIndex, refl, arith}

-- what has none of a byte is not cut by one
pub no_cut : (byte : ℕ) (word front rest : List ℕ) → EachIndex word (λ k. slice_index word k ≢ byte) → word ≡ front ++ (byte ∷ rest) → ⊥
no_cut byte [] [] rest clear is = cc
no_cut byte [] (d ∷ front) rest clear is = cc
no_cut byte (c ∷ word) [] rest clear is = clear 0 (omega arith) (cc)
no_cut byte (c ∷ word) (d ∷ front) rest clear is = no_cut byte word front rest (λ k inside. clear (suc k) (omega arith)) (cc)

-- there is one way to cut a word at its first of a byte
pub one_cut : (byte : ℕ) (front rest first second : List ℕ)
    → EachIndex front (λ k. slice_index front k ≢ byte) → EachIndex first (λ k. slice_index first k ≢ byte)
    → front ++ (byte ∷ rest) ≡ first ++ (byte ∷ second) → (front ≡ first) × (rest ≡ second)
one_cut byte [] rest [] second clear clear' is = (refl, cc)
one_cut byte [] rest (d ∷ first) second clear clear' is = absurd (clear' 0 (omega arith) (cc))
one_cut byte (c ∷ front) rest [] second clear clear' is = absurd (clear 0 (omega arith) (cc))
one_cut byte (c ∷ front) rest (d ∷ first) second clear clear' is =
    let (same, left) = one_cut byte front rest first second
    (λ k inside. clear (suc k) (omega arith)) (λ k inside. clear' (suc k) (omega arith)) (cc) in
    (cc, left)
