-- The first of a list of which something holds: there is at most one, and none if it holds of none.
use Rattle.std.proofs.Common.{◌≡◌, List, [], ◌∷◌, sym, ◌∙◌, subst, inl, inr}
use Rattle.pw_info.specs.Lines.{IsFirstIn, HoldsOfNone}

pub one_first : {A : Type 0} (P : A → Type 0) (xs : List A) (x y : A) → IsFirstIn P xs x → IsFirstIn P xs y → x ≡ y
one_first P [] x y p q = absurd p
one_first P (z ∷ xs) x y (inl p) (inl q) = sym p.0 ∙ q.0
one_first P (z ∷ xs) x y (inl p) (inr q) = absurd (q.0 p.1)
one_first P (z ∷ xs) x y (inr p) (inl q) = absurd (p.0 q.1)
one_first P (z ∷ xs) x y (inr p) (inr q) = one_first P xs x y p.1 q.1

pub none_is_first : {A : Type 0} (P : A → Type 0) (xs : List A) (x : A) → HoldsOfNone P xs → IsFirstIn P xs x → ⊥
none_is_first P [] x none p = p
none_is_first P (z ∷ xs) x none (inl p) = none.0 p.1
none_is_first P (z ∷ xs) x none (inr p) = none_is_first P xs x none.1 p.1

pub IsFirstIn-from : {A : Type 0} (P Q : A → Type 0) → ((x : A) → P x → Q x) → ((x : A) → Q x → P x) → (xs : List A) (x : A) → IsFirstIn P xs x → IsFirstIn Q xs x
IsFirstIn-from P Q to from [] x p = p
IsFirstIn-from P Q to from (z ∷ xs) x (inl p) = inl (p.0, to z p.1)
IsFirstIn-from P Q to from (z ∷ xs) x (inr p) = inr (λ q. p.0 (from z q), IsFirstIn-from P Q to from xs x p.1)

pub HoldsOfNone-from : {A : Type 0} (P Q : A → Type 0) → ((x : A) → Q x → P x) → (xs : List A) → HoldsOfNone P xs → HoldsOfNone Q xs
HoldsOfNone-from P Q from [] none = none
HoldsOfNone-from P Q from (z ∷ xs) none = (λ q. none.0 (from z q), HoldsOfNone-from P Q from xs none.1)

-- the first is one of the list of which P holds
pub IsFirstIn-holds : {A : Type 0} (P : A → Type 0) (xs : List A) (x : A) → IsFirstIn P xs x → P x
IsFirstIn-holds P [] x p = absurd p
IsFirstIn-holds P (z ∷ xs) x (inl p) = subst P p.0 p.1
IsFirstIn-holds P (z ∷ xs) x (inr p) = IsFirstIn-holds P xs x p.1
