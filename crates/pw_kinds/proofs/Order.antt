-- Tests of order on whole numbers, and the facts that they test.
use Rattle.std.proofs.Common.{◌≡◌, ℤ, ◌≤ℤ◌, ◌<ℤ◌, Bool, true, false, ◌&&◌, arith, refl, sym}
use Rattle.std.specs.Int.Signed.{le_z}
use Rattle.std.proofs.lemmas.Int.{ints}

pub le_true : (a b : ℤ) → le_z a b ≡ true → a ≤ℤ b
le_true a b e = grind (arith, ints)

pub true_le : (a b : ℤ) → a ≤ℤ b → le_z a b ≡ true
true_le a b h = grind (arith, ints)

pub le_false : (a b : ℤ) → le_z a b ≡ false → b <ℤ a
le_false a b e = grind (arith, ints)

pub false_le : (a b : ℤ) → b <ℤ a → le_z a b ≡ false
false_le a b h = grind (arith, ints)

-- both tests pass
pub both_true : (a b : Bool) → a ≡ true → b ≡ true → (a && b) ≡ true
both_true true true p q = refl
both_true true false p q = q
both_true false b p q = p

pub true_both : (a b : Bool) → (a && b) ≡ true → (a ≡ true) × (b ≡ true)
true_both true true p = (refl, refl)
true_both true false p = (refl, p)
true_both false b p = (p, absurd (cc))

-- two tests that pass alike are the same test
pub same_test : (a b : Bool) → (a ≡ true → b ≡ true) → (b ≡ true → a ≡ true) → a ≡ b
same_test true b p q = sym (p refl)
same_test false true p q = q refl
same_test false false p q = refl

pub is_false : (a : Bool) → (a ≡ true → ⊥) → a ≡ false
is_false true h = absurd (h refl)
is_false false h = refl

pub not_both : (a : Bool) → a ≡ true → a ≡ false → ⊥
not_both a p q = cc

-- a number between two others
pub between_true : (a v b : ℤ) → (le_z a v && le_z v b) ≡ true → (a ≤ℤ v) × (v ≤ℤ b)
between_true a v b e = let both : (le_z a v ≡ true) × (le_z v b ≡ true) = true_both _ _ e in (le_true a v both.0, le_true v b both.1)

pub true_between : (a v b : ℤ) → a ≤ℤ v → v ≤ℤ b → (le_z a v && le_z v b) ≡ true
true_between a v b p q = both_true _ _ (true_le a v p) (true_le v b q)
