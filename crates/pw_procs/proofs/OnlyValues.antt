-- The one possible value, if there is exactly one.
use Rattle.std.proofs.Common.{◌≡◌, ◌↔◌, ℕ, ℤ, pos, negsuc, ◌<◌, ◌≤◌, ◌≤ℤ◌, Bool, true, false, IsTrue, Some, arith, refl, sym, ◌∙◌, ap, subst}
use Rattle.std.proofs.lemmas.Int.{ints}
use Rattle.pw_kinds.specs.declared.interval.Interval.{Interval}
use Rattle.pw_kinds.specs.declared.members.Members.{Members}
use Rattle.pw_kinds.specs.declared.exact.Exact.{Exact}
use Rattle.pw_kinds.specs.Interval as interval
use Rattle.pw_kinds.specs.Members as members
use Rattle.pw_kinds.specs.Exact as exact
use Rattle.pw_kinds.proofs.Order.{same_test, is_false, not_both}
use Rattle.pw_kinds.proofs.MemberSets.{allows_below}
use Rattle.pw_kinds.proofs.Exacts.{self_eq, eq_true, true_eq}

-- this number passes, and no other does
abbrev pub IsOnly : (ℤ → Bool) → ℤ → Type 0
IsOnly passes v = (passes v ≡ true) × ((w : ℤ) → passes w ≡ true → w ≡ v)

-- if no place below a number that is at least the size is possible, none is
pub none_below : (m : Members) (n : ℕ) → members.size_of m ≤ n → ((k : ℕ) → k < n → members.allows m (pos k) ≡ false) → members.IsEmpty m
none_below m n most none (pos k) = is_false _ (λ e. let below : k < members.size_of m = allows_below m k e in not_both _ e (none k (omega arith)))
none_below m n most none (negsuc k) = refl

-- the one number of an interval that starts where it ends
pub only_end : (i : Interval) (lo hi n : ℤ) → interval.IsLeastOf i lo → interval.IsGreatestOf i hi → lo ≡ hi → n ≡ lo → (v : ℤ) → (Some n ≡ Some v) ↔ IsOnly (interval.allows i) v
only_end i lo hi n (low, least) (high, most) same e v = (
  λ s.
      let v_is : v ≡ lo = cc in
      (subst (λ (x : ℤ). interval.allows i x ≡ true) (sym v_is) low, λ w h. let from : lo ≤ℤ w = least w h in let to : w ≤ℤ hi = most w h in omega (arith, ints)),
  λ only. ap Some (e ∙ only.1 lo low),
)

-- if a place is possible and another one is too, there is no one place
pub not_only : (m : Members) (k : ℕ) (r : Bool) → members.allows m (pos k) ≡ true → (IsTrue r ↔ ((w : ℤ) → members.allows m w ≡ true → w ≡ pos k)) → r ≡ false → (v : ℤ) → IsOnly (members.allows m) v → ⊥
not_only m k r here tells other v only = not_both r (tells.1 (λ w h. only.1 w h ∙ sym (only.1 (pos k) here))) other

-- an exact value is of one number exactly if that is its one possible number
pub one_only : (e : Exact) (v : ℤ) → exact.IsOne e v → IsOnly (exact.allows e) v
one_only e v one = (one v ∙ self_eq v, λ w h. eq_true w v (sym (one w) ∙ h))

pub only_one : (e : Exact) (v : ℤ) → IsOnly (exact.allows e) v → exact.IsOne e v
only_one e v (here, only) w = same_test _ _
    (λ h. true_eq w v (only w h))
    (λ h. subst (λ (x : ℤ). exact.allows e x ≡ true) (sym (eq_true w v h)) here)
