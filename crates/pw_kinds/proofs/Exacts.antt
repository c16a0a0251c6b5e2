-- Exact values by what they leave possible.
use Rattle.std.proofs.Common.{◌≡◌, ℤ, pos, ◌≤ℤ◌, Bool, true, false, ◌&&◌, Option, Some, None, arith, refl, sym, ◌∙◌, subst, ap, inl, inr}
use Rattle.std.specs.Ordering.{int_eq}
use Rattle.std.proofs.lemmas.Int.{ints, by_lt_z}
use Rattle.std.proofs.lemmas.Bool.{cases_Bool}
use Rattle.std.proofs.lemmas.Bool.Decides.{Decides-int_eq}
use Rattle.std.proofs.Props.{props}
use mathlib.Core.HLevel.{is_prop→PathP}
use Rattle.pw_kinds.specs.declared.exact.Number.{Number}
use Rattle.pw_kinds.specs.declared.exact.Exact.{Exact}
use Rattle.pw_kinds.specs.declared.exact.Exact.TheVariants.{Any, One, Empty}
use Rattle.pw_kinds.specs.Ranges.{exact_lowest, exact_highest, exact_numbers, is_in_exact_range}
use Rattle.pw_kinds.specs.Exact.{allows, checked, one, between, closest, any, empty, meet_of, IsEmpty, IsAny, IsOne, IsWithin, IsClosest}
use Rattle.pw_kinds.proofs.Order.{both_true, true_both, same_test, is_false, not_both, between_true, true_between}
use Rattle.pw_kinds.proofs.Searches.{IsLeast, IsGreatest, least_is, greatest_is}

number_prop : (a b : ℤ) → IsProp (a ≤ℤ b)
number_prop a b = hlevel props

-- exact values of one number are equal
pub same_number : (m n : Number) → m.value ≡ n.value → One m ≡ One n
same_number m n p = λ k. One (record {
  value = p k;
  at_least = is_prop→PathP (λ k. exact_lowest ≤ℤ p k) (λ k. number_prop exact_lowest (p k)) m.at_least n.at_least k;
  at_most = is_prop→PathP (λ k. p k ≤ℤ exact_highest) (λ k. number_prop (p k) exact_highest) m.at_most n.at_most k;
})

pub eq_true : (a b : ℤ) → int_eq a b ≡ true → a ≡ b
eq_true a b e = (Decides-int_eq a b).0 e

pub true_eq : (a b : ℤ) → a ≡ b → int_eq a b ≡ true
true_eq a b e = (Decides-int_eq a b).1 e

pub self_eq : (a : ℤ) → int_eq a a ≡ true
self_eq a = true_eq a a refl

-- a number in range is possible if any is
pub true_number : (v : ℤ) → exact_lowest ≤ℤ v → v ≤ℤ exact_highest → is_in_exact_range v ≡ true
true_number v p q = true_between exact_lowest v exact_highest p q

pub number_true : (v : ℤ) → is_in_exact_range v ≡ true → (exact_lowest ≤ℤ v) × (v ≤ℤ exact_highest)
number_true v e = between_true exact_lowest v exact_highest e

pub value_in_range : (n : Number) → is_in_exact_range n.value ≡ true
value_in_range n = true_number n.value n.at_least n.at_most

-- what is possible is in range
pub allows_in_range : (e : Exact) (v : ℤ) → allows e v ≡ true → is_in_exact_range v ≡ true
allows_in_range Any v h = h
allows_in_range (One n) v h = subst (λ (x : ℤ). is_in_exact_range x ≡ true) (sym (eq_true v n.value h)) (value_in_range n)
allows_in_range Empty v h = absurd (not_both _ h refl)

-- 0 and 1 are in range, and are two
zero_number : is_in_exact_range (pos 0) ≡ true
zero_number = true_number (pos 0) (omega (arith, ints)) (omega (arith, ints))

one_number : is_in_exact_range (pos 1) ≡ true
one_number = true_number (pos 1) (omega (arith, ints)) (omega (arith, ints))

zero_one : (v : ℤ) → pos 0 ≡ v → pos 1 ≡ v → ⊥
zero_one v p q = omega (arith, ints)

-- one number alone is not any
pub one_not_any : (n : Number) → IsAny (One n) → ⊥
one_not_any n h = zero_one n.value (eq_true _ _ (h (pos 0) zero_number)) (eq_true _ _ (h (pos 1) one_number))

pub empty_not_any : IsAny Empty → ⊥
empty_not_any h = not_both _ (h (pos 0) zero_number) refl

pub any_not_empty : IsEmpty Any → ⊥
any_not_empty h = not_both _ zero_number (h (pos 0))

pub one_not_empty : (n : Number) → IsEmpty (One n) → ⊥
one_not_empty n h = not_both _ (self_eq n.value) (h n.value)

-- exact values that leave the same numbers possible are equal
pub same_values : (e f : Exact) → ((v : ℤ) → allows e v ≡ allows f v) → e ≡ f
same_values Any Any same = refl
same_values Any (One n) same = absurd (one_not_any n (λ v h. sym (same v) ∙ h))
same_values Any Empty same = absurd (any_not_empty same)
same_values (One m) Any same = absurd (one_not_any m (λ v h. same v ∙ h))
same_values (One m) (One n) same = same_number m n (eq_true m.value n.value (sym (same m.value) ∙ self_eq m.value))
same_values (One m) Empty same = absurd (one_not_empty m same)
same_values Empty Any same = absurd (any_not_empty (λ v. sym (same v)))
same_values Empty (One n) same = absurd (one_not_empty n (λ v. sym (same v)))
same_values Empty Empty same = refl

-- the same for two that leave the same numbers in range possible
pub same_in_range : (e f : Exact) → ((v : ℤ) → is_in_exact_range v ≡ true → allows e v ≡ allows f v) → e ≡ f
same_in_range e f same = same_values e f (λ v. same_test _ _
    (λ h. sym (same v (allows_in_range e v h)) ∙ h)
    (λ h. same v (allows_in_range f v h) ∙ h))

-- ---- the closest

checked_is : (n : ℤ) (b : Bool) (e : is_in_exact_range n ≡ b) → b ≡ true → IsOne (checked n b e) n
unfolding checked
checked_is n true e t v = refl
checked_is n false e t v = absurd (cc)

-- the exact value of one number in range
pub one_is : (n : ℤ) → is_in_exact_range n ≡ true → IsOne (one n) n
one_is n h = checked_is n _ refl h

pub between_same : (a b : ℤ) → is_in_exact_range a ≡ true → a ≡ b → IsOne (between (Some a) (Some b)) a
between_same a b h e v = rw (true_eq a b e) (one_is a h v)

pub between_other : (a b : ℤ) → int_eq a b ≡ false → between (Some a) (Some b) ≡ Any
between_other a b e = rw e refl

-- one that allows two numbers is any
two_any : (f : Exact) (a b : ℤ) → allows f a ≡ true → allows f b ≡ true → int_eq a b ≡ false → f ≡ Any
two_any Any a b p q e = refl
two_any (One n) a b p q e = absurd (not_both _ (true_eq a b (eq_true a n.value p ∙ sym (eq_true b n.value q))) e)
two_any Empty a b p q e = absurd (not_both _ p refl)

one_closest : (p : ℤ → Bool) (a b : ℤ) → IsLeast p exact_numbers exact_lowest (Some a) → IsGreatest p exact_numbers exact_highest (Some b) → a ≡ b → IsClosest p (between (Some a) (Some b))
one_closest p a b (low_from, low_to, low_passes, least') (high_from, high_to, high_passes, most) e =
    let in_range : is_in_exact_range a ≡ true = true_number a low_from (omega (arith, ints)) in
    let here : IsOne (between (Some a) (Some b)) a = between_same a b in_range e in
    record {
      holds = λ v r h.
          let range : (exact_lowest ≤ℤ v) × (v ≤ℤ exact_highest) = number_true v r in
          let from : a ≤ℤ v = by_lt_z v a (λ l. absurd (not_both _ h (least' v range.0 l))) (λ l. l) in
          let to : v ≤ℤ b = by_lt_z b v (λ l. absurd (not_both _ h (most v l range.1))) (λ l. l) in
          let same : v ≡ a = omega (arith, ints) in
          here v ∙ true_eq v a same;
      smallest = λ f each v h.
          let same : v ≡ a = eq_true v a (sym (here v) ∙ h) in
          subst (λ (x : ℤ). allows f x ≡ true) (sym same) (each a in_range low_passes);
    }

any_closest : (p : ℤ → Bool) (a b : ℤ) → IsLeast p exact_numbers exact_lowest (Some a) → IsGreatest p exact_numbers exact_highest (Some b) → int_eq a b ≡ false → IsClosest p Any
any_closest p a b (low_from, low_to, low_passes, least') (high_from, high_to, high_passes, most) e =
    record {
      holds = λ v r h. r;
      smallest = λ f each v h.
          let f_any : f ≡ Any = two_any f a b
          (each a (true_number a low_from (omega (arith, ints))) low_passes)
          (each b (true_number b (omega (arith, ints)) high_to) high_passes) e in
          subst (λ (x : Exact). allows x v ≡ true) (sym f_any) h;
    }

between_closest : (p : ℤ → Bool) (a b : Option ℤ) → IsLeast p exact_numbers exact_lowest a → IsGreatest p exact_numbers exact_highest b → IsClosest p (between a b)
between_closest p None b low high = record {
  holds = λ v r e. let range : (exact_lowest ≤ℤ v) × (v ≤ℤ exact_highest) = number_true v r in absurd (not_both _ e (low v range.0 (omega (arith, ints))));
  smallest = λ f each v e. absurd (not_both _ e refl);
}
between_closest p (Some a) None low high = record {
  holds = λ v r e. let range : (exact_lowest ≤ℤ v) × (v ≤ℤ exact_highest) = number_true v r in absurd (not_both _ e (high v (omega (arith, ints)) range.1));
  smallest = λ f each v e. absurd (not_both _ e refl);
}
between_closest p (Some a) (Some b) low high = elim (cases_Bool (int_eq a b)) [
  | inl e ↦ one_closest p a b low high (eq_true a b e)
  | inr e ↦ subst (IsClosest p) (sym (between_other a b e)) (any_closest p a b low high e)
]

-- the closest exact value is what its name says
pub closest_closest : (p : ℤ → Bool) → IsClosest p (closest p)
unfolding closest
closest_closest p = between_closest p _ _ (least_is p exact_numbers exact_lowest) (greatest_is p exact_numbers exact_highest)

-- an exact value that leaves possible exactly what passes, of the numbers in range, is the closest
pub closest_is : (p : ℤ → Bool) (e : Exact) → ((v : ℤ) → is_in_exact_range v ≡ true → allows e v ≡ p v) → e ≡ closest p
closest_is p e same =
    let c : IsClosest p (closest p) = closest_closest p in
    same_in_range e (closest p) (λ v r. same_test _ _
    (λ h. c.holds v r (sym (same v r) ∙ h))
    (λ h. c.smallest e (λ w q k. same w q ∙ k) v h))

-- ---- any, no number and a merge

pub any_is : Any ≡ any
any_is = closest_is (λ v. true) Any (λ v r. r)

pub empty_is : Empty ≡ empty
empty_is = closest_is (λ v. false) Empty (λ v r. refl)

pub allows-any : (v : ℤ) → allows any v ≡ is_in_exact_range v
allows-any v = ap (λ (e : Exact). allows e v) (sym any_is)

pub allows-empty : (v : ℤ) → allows empty v ≡ false
allows-empty v = ap (λ (e : Exact). allows e v) (sym empty_is)

both_one : (m : Number) (f : Exact) → (r : Exact) × ((v : ℤ) → allows r v ≡ (allows (One m) v && allows f v))
both_one m f = elim (cases_Bool (allows f m.value)) [
  | inl e ↦ (
    One m,
    λ v. same_test _ _
        (λ h. both_true _ _ h (subst (λ (x : ℤ). allows f x ≡ true) (sym (eq_true v m.value h)) e))
        (λ h. (true_both _ _ h).0),
  )
  | inr e ↦ (
    Empty,
    λ v. same_test _ _
        (λ h. absurd (not_both _ h refl))
        (λ h. let both : (int_eq v m.value ≡ true) × (allows f v ≡ true) = true_both _ _ h in
        absurd (not_both _ (subst (λ (x : ℤ). allows f x ≡ true) (eq_true v m.value both.0) both.1) e)),
  )
]

-- some exact value leaves possible exactly what two leave
both_values : (e f : Exact) → (r : Exact) × ((v : ℤ) → allows r v ≡ (allows e v && allows f v))
both_values Any f = (f, λ v. same_test _ _ (λ h. both_true _ _ (allows_in_range f v h) h) (λ h. (true_both _ _ h).1))
both_values Empty f = (Empty, λ v. refl)
both_values (One m) f = both_one m f

-- an exact value from a merge: what both leave possible
pub meet_is : (e f r : Exact) → ((v : ℤ) → allows r v ≡ (allows e v && allows f v)) → r ≡ meet_of e f
meet_is e f r same = closest_is (λ v. allows e v && allows f v) r (λ v _. same v)

pub allows-meet : (e f : Exact) (v : ℤ) → allows (meet_of e f) v ≡ (allows e v && allows f v)
allows-meet e f v =
    let (r, same) = both_values e f in
    ap (λ (x : Exact). allows x v) (sym (meet_is e f r same)) ∙ same v

-- ---- the meaning of the code's cases

pub any_not_one : (n : ℤ) → IsOne Any n → ⊥
any_not_one n h = zero_one n (eq_true (pos 0) n (sym (h (pos 0)) ∙ zero_number)) (eq_true (pos 1) n (sym (h (pos 1)) ∙ one_number))

pub is_any_is : (e : Exact) → IsAny e → e ≡ Any
is_any_is Any h = refl
is_any_is (One n) h = absurd (one_not_any n h)
is_any_is Empty h = absurd (empty_not_any h)

pub is_empty_is : (e : Exact) → IsEmpty e → e ≡ Empty
is_empty_is Any h = absurd (any_not_empty h)
is_empty_is (One n) h = absurd (one_not_empty n h)
is_empty_is Empty h = refl

pub any_meet : (f : Exact) → f ≡ meet_of Any f
any_meet f = meet_is Any f f (λ v. same_test _ _ (λ h. both_true _ _ (allows_in_range f v h) h) (λ h. (true_both _ _ h).1))

pub meet_any : (e : Exact) → e ≡ meet_of e Any
meet_any e = meet_is e Any e (λ v. same_test _ _ (λ h. both_true _ _ h (allows_in_range e v h)) (λ h. (true_both _ _ h).0))

pub empty_meet : (f : Exact) → Empty ≡ meet_of Empty f
empty_meet f = meet_is Empty f Empty (λ v. refl)

pub meet_empty : (e : Exact) → Empty ≡ meet_of e Empty
meet_empty e = meet_is e Empty Empty (λ v. sym (is_false _ (λ h. not_both _ (true_both _ _ h).1 refl)))

pub one_meet_same : (m n : Number) → m.value ≡ n.value → One m ≡ meet_of (One m) (One n)
one_meet_same m n e = meet_is (One m) (One n) (One m) (λ v. same_test _ _
    (λ h. both_true _ _ h (true_eq v n.value (eq_true v m.value h ∙ e)))
    (λ h. (true_both _ _ h).0))

pub one_meet_other : (m n : Number) → (m.value ≡ n.value → ⊥) → Empty ≡ meet_of (One m) (One n)
one_meet_other m n apart = meet_is (One m) (One n) Empty (λ v. sym (is_false _ (λ h.
    let both : (int_eq v m.value ≡ true) × (int_eq v n.value ≡ true) = true_both _ _ h in
    apart (sym (eq_true v m.value both.0) ∙ eq_true v n.value both.1))))

pub meet_values : (e f r : Exact) → r ≡ meet_of e f → (v : ℤ) → allows r v ≡ (allows e v && allows f v)
meet_values e f r same v = ap (λ (x : Exact). allows x v) same ∙ allows-meet e f v

pub one_within : (m n : Number) → m.value ≡ n.value → IsWithin (One m) (One n)
one_within m n e v h = true_eq v n.value (eq_true v m.value h ∙ e)

pub within_one : (m n : Number) → IsWithin (One m) (One n) → m.value ≡ n.value
within_one m n w = eq_true m.value n.value (w m.value (self_eq m.value))

-- ---- the same for values that the code has taken apart

-- a fact of two values, from the fact of what they are
at_both : (P : Exact → Exact → Type 0) (e f e' f' : Exact) → e ≡ e' → f ≡ f' → P e' f' → P e f
at_both P e f e' f' p q h = subst (λ (x : Exact). P x f) (sym p) (subst (λ (x : Exact). P e' x) (sym q) h)

-- what is not of one number leaves no one number possible
pub not_one : (e : Exact) (n : ℤ) → ((m : Number) → e ≡ One m → ⊥) → IsOne e n → ⊥
not_one Any n other h = any_not_one n h
not_one (One m) n other h = other m refl
not_one Empty n other h = not_both _ (self_eq n) (sym (h n))

pub any_meets : (e f : Exact) → e ≡ Any → f ≡ meet_of e f
any_meets e f p = at_both (λ x y. y ≡ meet_of x y) e f Any f p refl (any_meet f)

pub meets_any : (e f : Exact) → f ≡ Any → e ≡ meet_of e f
meets_any e f p = at_both (λ x y. x ≡ meet_of x y) e f e Any refl p (meet_any e)

pub empty_meets : (e f : Exact) → e ≡ Empty → Empty ≡ meet_of e f
empty_meets e f p = at_both (λ x y. Empty ≡ meet_of x y) e f Empty f p refl (empty_meet f)

pub meets_empty : (e f : Exact) → f ≡ Empty → Empty ≡ meet_of e f
meets_empty e f p = at_both (λ x y. Empty ≡ meet_of x y) e f e Empty refl p (meet_empty e)

pub meet_numbers : (e f : Exact) (m n : Number) → e ≡ One m → f ≡ One n → m.value ≡ n.value → e ≡ meet_of e f
meet_numbers e f m n p q same = at_both (λ x y. x ≡ meet_of x y) e f (One m) (One n) p q (one_meet_same m n same)

pub meet_apart : (e f : Exact) (m n : Number) → e ≡ One m → f ≡ One n → (m.value ≡ n.value → ⊥) → Empty ≡ meet_of e f
meet_apart e f m n p q apart = at_both (λ x y. Empty ≡ meet_of x y) e f (One m) (One n) p q (one_meet_other m n apart)

pub numbers_within : (e f : Exact) (m n : Number) → e ≡ One m → f ≡ One n → m.value ≡ n.value → IsWithin e f
numbers_within e f m n p q same = at_both IsWithin e f (One m) (One n) p q (one_within m n same)

pub within_numbers : (e f : Exact) (m n : Number) → e ≡ One m → f ≡ One n → IsWithin e f → m.value ≡ n.value
within_numbers e f m n p q w = within_one m n (at_both IsWithin (One m) (One n) e f (sym p) (sym q) w)

pub one_not_within_empty : (e f : Exact) (m : Number) → e ≡ One m → f ≡ Empty → IsWithin e f → ⊥
one_not_within_empty e f m p q w =
    let none : IsWithin (One m) Empty = at_both IsWithin (One m) Empty e f (sym p) (sym q) w in
    not_both _ (none m.value (self_eq m.value)) refl

pub any_within_any : (e f : Exact) → e ≡ Any → IsWithin e f → f ≡ Any
any_within_any e f p w = is_any_is f (at_both IsWithin Any f e f (sym p) refl w)

-- ---- values of one number

-- two of one number are equal
pub same_ones : (e f : Exact) (n : ℤ) → IsOne e n → IsOne f n → e ≡ f
same_ones e f n p q = same_values e f (λ v. p v ∙ sym (q v))

pub meet_ones : (e f : Exact) (n : ℤ) → IsOne e n → IsOne f n → IsOne (meet_of e f) n
meet_ones e f n p q v = allows-meet e f v ∙ same_test _ _
    (λ h. sym (p v) ∙ (true_both _ _ h).0)
    (λ h. both_true _ _ (p v ∙ h) (q v ∙ h))

pub meet_of_others : (e f : Exact) (m n : ℤ) → IsOne e m → IsOne f n → int_eq m n ≡ false → meet_of e f ≡ empty
meet_of_others e f m n p q apart = same_values (meet_of e f) empty (λ v. allows-meet e f v ∙ is_false _ (λ h.
    let both : (allows e v ≡ true) × (allows f v ≡ true) = true_both _ _ h in
    let at_m : v ≡ m = eq_true v m (sym (p v) ∙ both.0) in
    let at_n : v ≡ n = eq_true v n (sym (q v) ∙ both.1) in
    not_both _ (true_eq m n (sym at_m ∙ at_n)) apart) ∙ sym (allows-empty v))

-- the closest to a test that one number in range alone passes
pub closest_one : (n : ℤ) → is_in_exact_range n ≡ true → IsOne (closest (λ v. int_eq v n)) n
closest_one n h v =
    ap (λ (x : Exact). allows x v) (sym (closest_is (λ v. int_eq v n) (one n) (λ w r. one_is n h w))) ∙ one_is n h v

-- the closest to a test that two numbers in range pass
pub closest_two : (p : ℤ → Bool) (a b : ℤ) → is_in_exact_range a ≡ true → is_in_exact_range b ≡ true → p a ≡ true → p b ≡ true → int_eq a b ≡ false → closest p ≡ any
closest_two p a b in_a in_b at_a at_b apart =
    let c : IsClosest p (closest p) = closest_closest p in
    two_any (closest p) a b (c.holds a in_a at_a) (c.holds b in_b at_b) apart ∙ any_is

-- the closest to a test that no number in range passes
pub closest_none : (p : ℤ → Bool) → ((v : ℤ) → exact_lowest ≤ℤ v → v ≤ℤ exact_highest → p v ≡ false) → closest p ≡ empty
closest_none p nowhere = sym (closest_is p Empty (λ v r. let range : (exact_lowest ≤ℤ v) × (v ≤ℤ exact_highest) = number_true v r in sym (nowhere v range.0 range.1))) ∙ empty_is
