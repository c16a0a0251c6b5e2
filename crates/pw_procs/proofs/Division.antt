-- Quotients of whole numbers by their corners.
use Rattle.std.proofs.Common.{◌≡◌, ℕ, ℤ, pos, negsuc, ◌≤ℤ◌, ◌<ℤ◌, ◌*ℤ◌, neg_ℤ, ◌≤◌, ◌<◌, ◌*◌, ◌/◌, suc, zero, Bool, true, false, ◌&&◌, ◌||◌, if◌then◌else◌, ◌⊎◌, inl, inr, arith, refl, sym, ◌∙◌, ap}
use Rattle.std.specs.Int.Signed.{le_z, lt_z}
use Rattle.std.specs.Int.{int_div_euclid}
use Rattle.std.proofs.Math.Nat.{le-div_iff_mul-le, div-lt_iff_lt-mul}
use Rattle.std.proofs.Math.IntN.{zero-*ℤ, *ℤ_comm}
use Rattle.std.proofs.Math.Bool.{or_comm}
use Rattle.std.proofs.lemmas.Bool.{or_cases, or_left, or_right}
use Rattle.std.proofs.lemmas.Int.{ints}
use Rattle.pw_kinds.specs.declared.interval.Interval.{Interval}
use Rattle.pw_kinds.specs.Ranges.{interval_lowest, interval_highest, is_in_interval_range}
use Rattle.pw_kinds.specs.Interval as interval
use Rattle.pw_kinds.specs.Interval.{IsEmpty, IsLeastOf, IsGreatestOf}
use Rattle.pw_kinds.proofs.Order.{le_true, true_le, both_true, true_both, same_test, is_false, true_between}
use Rattle.pw_kinds.proofs.Intervals as intervals
use Rattle.pw_info.specs.declared.kind.Kind.TheVariants as kinds
use Rattle.pw_info.specs.declared.info.Info.{Info}
use Rattle.pw_info.specs.declared.info.Info.TheVariants as info
use Rattle.pw_info.specs.Information.{allows, nothing}
use Rattle.pw_procs.specs.Values.{some, is_possible}
use Rattle.pw_procs.specs.Meaning.{is_quotient_at_most, is_quotient_at_least, between_quotients, quotient_of}
use Rattle.pw_procs.proofs.Possible.{some_true, true_some, some_same}
use Rattle.pw_procs.proofs.Corners.{product_up, product_down}
use Rattle.pw_procs.proofs.TruthSets.{true_lt}

-- ---- products, and a quotient rounded down

-- a number is at or below the quotient rounded down exactly if its product with the divisor is at
-- or below the dividend
below_floor : (t q : ℤ) (k : ℕ) → 0 < k → q ≤ℤ int_div_euclid t (pos k) → (q *ℤ pos k) ≤ℤ t
below_floor (pos a) (pos b) k p h = let e : b * k ≤ a = (le-div_iff_mul-le p).0 (omega (arith, ints)) in omega (arith, ints, e)
below_floor (pos a) (negsuc b) k p h = let e = product_up (negsuc b) (pos 0) k (omega (arith, ints)) in omega (arith, ints, e)
below_floor (negsuc a) (pos b) k p h = absurd (omega (arith, ints))
below_floor (negsuc a) (negsuc b) k p h = let e : a < suc b * k = (div-lt_iff_lt-mul p).0 (omega (arith, ints)) in omega (arith, ints, e)

-- and conversely
floor_above : (t q : ℤ) (k : ℕ) → 0 < k → (q *ℤ pos k) ≤ℤ t → q ≤ℤ int_div_euclid t (pos k)
floor_above (pos a) (pos b) k p h = let e : b ≤ a / k = (le-div_iff_mul-le p).1 (omega (arith, ints)) in omega (arith, ints, e)
floor_above (pos a) (negsuc b) k p h = omega (arith, ints)
floor_above (negsuc a) (pos b) k p h = let e = product_up (pos 0) (pos b) k (omega (arith, ints)) in absurd (omega (arith, ints, e))
floor_above (negsuc a) (negsuc b) k p h = let e : a / k < suc b = (div-lt_iff_lt-mul p).1 (omega (arith, ints)) in omega (arith, ints, e)

-- the floor of a quotient, by what is at or below it
pub floor_is : (t x r : ℤ) → pos 0 <ℤ x → r ≡ int_div_euclid t x → (q : ℤ) → le_z q r ≡ le_z (q *ℤ x) t
floor_is t (pos k) r p e q = ap (le_z q) e ∙ same_test _ _
    (λ h. true_le (q *ℤ pos k) t (below_floor t q k (omega (arith, ints)) (le_true q (int_div_euclid t (pos k)) h)))
    (λ h. true_le q (int_div_euclid t (pos k)) (floor_above t q k (omega (arith, ints)) (le_true (q *ℤ pos k) t h)))
floor_is t (negsuc k) r p e q = absurd (omega (arith, ints))

-- a product with a negated factor is the negated product
neg_product : (q x : ℤ) → (neg_ℤ q *ℤ x) ≡ neg_ℤ (q *ℤ x)
neg_product (pos zero) x = zero-*ℤ x ∙ sym (ap neg_ℤ (zero-*ℤ x))
neg_product (pos (suc k)) (pos n) = omega (arith, ints)
neg_product (pos (suc k)) (negsuc n) = omega (arith, ints)
neg_product (negsuc k) (pos n) = omega (arith, ints)
neg_product (negsuc k) (negsuc n) = omega (arith, ints)

-- so is a product with a negated second factor
product_neg : (q x y : ℤ) → y ≡ neg_ℤ x → (q *ℤ y) ≡ neg_ℤ (q *ℤ x)
product_neg q x y e = ap (λ z. q *ℤ z) e ∙ *ℤ_comm q (neg_ℤ x) ∙ neg_product x q ∙ ap neg_ℤ (*ℤ_comm x q)

-- the quotient rounded up is the negated quotient of the negated dividend, rounded down
pub ceil_is : (t x y s f r : ℤ) → ((q : ℤ) → le_z q f ≡ le_z (q *ℤ y) s) → y ≡ x → s ≡ neg_ℤ t → r ≡ neg_ℤ f → (q : ℤ) → le_z r q ≡ le_z t (q *ℤ x)
ceil_is t x y s f r below same d e q =
    let n : (neg_ℤ q *ℤ y) ≡ neg_ℤ (q *ℤ x) = neg_product q y ∙ ap (λ z. neg_ℤ (q *ℤ z)) same in
    same_test _ _
    (λ h.
    let l : r ≤ℤ q = le_true r q h in
    let m : (neg_ℤ q *ℤ y) ≤ℤ s = le_true (neg_ℤ q *ℤ y) s (sym (below (neg_ℤ q)) ∙ true_le (neg_ℤ q) f (omega (arith, ints, l, e))) in
    true_le t (q *ℤ x) (omega (arith, ints, m, n, d)))
    (λ h.
    let l : t ≤ℤ (q *ℤ x) = le_true t (q *ℤ x) h in
    let m : neg_ℤ q ≤ℤ f = le_true (neg_ℤ q) f (below (neg_ℤ q) ∙ true_le (neg_ℤ q *ℤ y) s (omega (arith, ints, l, n, d))) in
    true_le r q (omega (arith, ints, m, e)))

-- tests that are the same one by one are the same together
both_same : {a b c d : Bool} → a ≡ b → c ≡ d → (b && d) ≡ (a && c)
both_same p q = λ k. sym p k && sym q k

either_same : {a b c d : Bool} → a ≡ b → c ≡ d → (b || d) ≡ (a || c)
either_same p q = λ k. sym p k || sym q k

-- of two tests, one that holds where the other does holds exactly if one of them does
by_last : (a b : Bool) → (a ≡ true → b ≡ true) → b ≡ (a || b)
by_last true b h = h refl
by_last false b h = refl

by_first : (a b : Bool) → (b ≡ true → a ≡ true) → a ≡ (a || b)
by_first true b h = refl
by_first false true h = h refl
by_first false false h = refl

-- a product that is at or above a positive number stays so with a greater divisor
up_to_greater : (t x y q : ℤ) → pos 0 <ℤ x → x ≤ℤ y → pos 0 <ℤ t → t ≤ℤ (q *ℤ x) → t ≤ℤ (q *ℤ y)
up_to_greater t x y (pos k) p l m h = let e = product_up x y k l in omega (arith, ints, e)
up_to_greater t x y (negsuc k) p l m h = let e = product_down (pos 0) x k (omega (arith, ints)) in absurd (omega (arith, ints, e))

-- one at or above another number, with a lesser divisor
up_to_lesser : (t x y q : ℤ) → pos 0 <ℤ x → x ≤ℤ y → t ≤ℤ pos 0 → t ≤ℤ (q *ℤ y) → t ≤ℤ (q *ℤ x)
up_to_lesser t x y (pos k) p l m h = let e = product_up (pos 0) x k (omega (arith, ints)) in omega (arith, ints, e)
up_to_lesser t x y (negsuc k) p l m h = let e = product_down x y k l in omega (arith, ints, e)

-- one at or below a positive number, with a lesser divisor
down_to_lesser : (t x y q : ℤ) → pos 0 <ℤ x → x ≤ℤ y → pos 0 <ℤ t → (q *ℤ y) ≤ℤ t → (q *ℤ x) ≤ℤ t
down_to_lesser t x y (pos k) p l m h = let e = product_up x y k l in omega (arith, ints, e)
down_to_lesser t x y (negsuc k) p l m h = let e = product_down (pos 0) x k (omega (arith, ints)) in omega (arith, ints, e)

-- one at or below another number, with a greater divisor
down_to_greater : (t x y q : ℤ) → pos 0 <ℤ x → x ≤ℤ y → t ≤ℤ pos 0 → (q *ℤ x) ≤ℤ t → (q *ℤ y) ≤ℤ t
down_to_greater t x y (pos zero) p l m h = let (e, f) : (pos zero *ℤ x ≡ pos 0) × (pos zero *ℤ y ≡ pos 0) = (zero-*ℤ x, zero-*ℤ y) in omega (arith, ints, e, f)
down_to_greater t x y (pos (suc k)) p l m h = let e = product_up (pos 1) x (suc k) (omega (arith, ints)) in absurd (omega (arith, ints, e))
down_to_greater t x y (negsuc k) p l m h = let e = product_down x y k l in omega (arith, ints, e)

-- a number times one of two divisors is at or above a dividend: with positive divisors, the number
-- is at or above a true quotient
abbrev is_above_corner : ℤ → ℤ → ℤ → ℤ → Bool
is_above_corner t x y q = le_z t (q *ℤ x) || le_z t (q *ℤ y)

-- and at or below it
abbrev is_below_corner : ℤ → ℤ → ℤ → ℤ → Bool
is_below_corner t x y q = le_z (q *ℤ x) t || le_z (q *ℤ y) t

-- so the least quotient of a positive number is by the greatest divisor, and that of another by the least
pub least_by_greatest : (t x y q : ℤ) → pos 0 <ℤ x → x ≤ℤ y → pos 0 <ℤ t → le_z t (q *ℤ y) ≡ is_above_corner t x y q
least_by_greatest t x y q p l m = by_last (le_z t (q *ℤ x)) (le_z t (q *ℤ y)) (λ e. true_le t (q *ℤ y) (up_to_greater t x y q p l m (le_true t (q *ℤ x) e)))

pub least_by_least : (t x y q : ℤ) → pos 0 <ℤ x → x ≤ℤ y → t ≤ℤ pos 0 → le_z t (q *ℤ x) ≡ is_above_corner t x y q
least_by_least t x y q p l m = by_first (le_z t (q *ℤ x)) (le_z t (q *ℤ y)) (λ e. true_le t (q *ℤ x) (up_to_lesser t x y q p l m (le_true t (q *ℤ y) e)))

-- and the greatest quotient the other way round
pub greatest_by_least : (t x y q : ℤ) → pos 0 <ℤ x → x ≤ℤ y → pos 0 <ℤ t → le_z (q *ℤ x) t ≡ is_below_corner t x y q
greatest_by_least t x y q p l m = by_first (le_z (q *ℤ x) t) (le_z (q *ℤ y) t) (λ e. true_le (q *ℤ x) t (down_to_lesser t x y q p l m (le_true (q *ℤ y) t e)))

pub greatest_by_greatest : (t x y q : ℤ) → pos 0 <ℤ x → x ≤ℤ y → t ≤ℤ pos 0 → le_z (q *ℤ y) t ≡ is_below_corner t x y q
greatest_by_greatest t x y q p l m = by_last (le_z (q *ℤ x) t) (le_z (q *ℤ y) t) (λ e. true_le (q *ℤ y) t (down_to_greater t x y q p l m (le_true (q *ℤ x) t e)))

-- ---- corners

-- a product with a number between two others is at most one of the products with these
product_most : (q a b c : ℤ) → a ≤ℤ b → b ≤ℤ c → ((q *ℤ b) ≤ℤ (q *ℤ a)) ⊎ ((q *ℤ b) ≤ℤ (q *ℤ c))
product_most (pos k) a b c l m = let e = product_up b c k m in inr (omega (arith, ints, e))
product_most (negsuc k) a b c l m = let e = product_down a b k l in inl (omega (arith, ints, e))

-- and at least one of them
product_least : (q a b c : ℤ) → a ≤ℤ b → b ≤ℤ c → ((q *ℤ a) ≤ℤ (q *ℤ b)) ⊎ ((q *ℤ c) ≤ℤ (q *ℤ b))
product_least (pos k) a b c l m = let e = product_up a b k l in inl (omega (arith, ints, e))
product_least (negsuc k) a b c l m = let e = product_down b c k m in inr (omega (arith, ints, e))

-- some possible dividend is at or below q times some possible divisor exactly if the least is, of
-- the end divisors
below_corners : (t x : Interval) (t_lo x_lo x_hi : ℤ) → IsLeastOf t t_lo → IsLeastOf x x_lo → IsGreatestOf x x_hi → (q : ℤ)
    → some (info.Interval t) (λ a. some (info.Interval x) (λ b. le_z a (q *ℤ b))) ≡ is_above_corner t_lo x_lo x_hi q
below_corners t x t_lo x_lo x_hi (lo_here, lo_least) (one_here, one_least) (other_here, other_most) q = same_test _ _
    (λ e.
    let (a, a_here, inner) = some_true (info.Interval t) (λ a. some (info.Interval x) (λ b. le_z a (q *ℤ b))) e in
    let (b, b_here, passes) = some_true (info.Interval x) (λ b. le_z a (q *ℤ b)) inner in
    let least : t_lo ≤ℤ a = lo_least a a_here in
    let below : a ≤ℤ (q *ℤ b) = le_true a (q *ℤ b) passes in
    elim (product_most q x_lo b x_hi (one_least b b_here) (other_most b b_here)) [
      | inl l ↦ or_left (le_z t_lo (q *ℤ x_lo)) (le_z t_lo (q *ℤ x_hi)) (true_le t_lo (q *ℤ x_lo) (omega (arith, ints, l)))
      | inr l ↦ or_right (le_z t_lo (q *ℤ x_lo)) (le_z t_lo (q *ℤ x_hi)) (true_le t_lo (q *ℤ x_hi) (omega (arith, ints, l)))
    ])
    (λ e. true_some (info.Interval t) (λ a. some (info.Interval x) (λ b. le_z a (q *ℤ b))) t_lo lo_here
    (elim (or_cases (le_z t_lo (q *ℤ x_lo)) (le_z t_lo (q *ℤ x_hi)) e) [
      | inl l ↦ true_some (info.Interval x) (λ b. le_z t_lo (q *ℤ b)) x_lo one_here l
      | inr l ↦ true_some (info.Interval x) (λ b. le_z t_lo (q *ℤ b)) x_hi other_here l
    ]))

-- some possible dividend is at or above q times some possible divisor exactly if the greatest is,
-- of the end divisors
above_corners : (t x : Interval) (t_hi x_lo x_hi : ℤ) → IsGreatestOf t t_hi → IsLeastOf x x_lo → IsGreatestOf x x_hi → (q : ℤ)
    → some (info.Interval t) (λ a. some (info.Interval x) (λ b. le_z (q *ℤ b) a)) ≡ is_below_corner t_hi x_lo x_hi q
above_corners t x t_hi x_lo x_hi (hi_here, hi_most) (one_here, one_least) (other_here, other_most) q = same_test _ _
    (λ e.
    let (a, a_here, inner) = some_true (info.Interval t) (λ a. some (info.Interval x) (λ b. le_z (q *ℤ b) a)) e in
    let (b, b_here, passes) = some_true (info.Interval x) (λ b. le_z (q *ℤ b) a) inner in
    let most : a ≤ℤ t_hi = hi_most a a_here in
    let below : (q *ℤ b) ≤ℤ a = le_true (q *ℤ b) a passes in
    elim (product_least q x_lo b x_hi (one_least b b_here) (other_most b b_here)) [
      | inl l ↦ or_left (le_z (q *ℤ x_lo) t_hi) (le_z (q *ℤ x_hi) t_hi) (true_le (q *ℤ x_lo) t_hi (omega (arith, ints, l)))
      | inr l ↦ or_right (le_z (q *ℤ x_lo) t_hi) (le_z (q *ℤ x_hi) t_hi) (true_le (q *ℤ x_hi) t_hi (omega (arith, ints, l)))
    ])
    (λ e. true_some (info.Interval t) (λ a. some (info.Interval x) (λ b. le_z (q *ℤ b) a)) t_hi hi_here
    (elim (or_cases (le_z (q *ℤ x_lo) t_hi) (le_z (q *ℤ x_hi) t_hi) e) [
      | inl l ↦ true_some (info.Interval x) (λ b. le_z (q *ℤ b) t_hi) x_lo one_here l
      | inr l ↦ true_some (info.Interval x) (λ b. le_z (q *ℤ b) t_hi) x_hi other_here l
    ]))

-- ---- quotients of intervals

-- a test of order fails where it does not hold
lt_false : (a b : ℤ) → b ≤ℤ a → lt_z a b ≡ false
lt_false a b h = grind (arith, ints)

-- if all possible divisors have one sign, one test of the sign decides for all
one_sign : (t x : Info) (sign : Bool) (p r : ℤ → ℤ → Bool) → ((b : ℤ) → allows x b ≡ true → lt_z (pos 0) b ≡ sign)
    → some t (λ a. some x (λ b. if lt_z (pos 0) b then p a b else r a b)) ≡ some t (λ a. some x (λ b. if sign then p a b else r a b))
one_sign t x sign p r signs = some_same t _ _ (λ a a_here. some_same x _ _ (λ b b_here. ap (λ s. if s then p a b else r a b) (signs b b_here)))

-- some true quotient is at most a number
abbrev some_at_most : Interval → Interval → ℤ → Bool
some_at_most t x q = some (info.Interval t) (λ a. some (info.Interval x) (λ b. is_quotient_at_most q a b))

-- some true quotient is at least a number
abbrev some_at_least : Interval → Interval → ℤ → Bool
some_at_least t x q = some (info.Interval t) (λ a. some (info.Interval x) (λ b. is_quotient_at_least q a b))

-- if the divisor cannot be 0, the interval of the quotients is the quotient
quotient_is : (t x r : Interval) → ((a : ℤ) → interval.allows t a ≡ true → interval.allows x (pos 0) ≡ true → ⊥)
    → ((q : ℤ) → interval_lowest ≤ℤ q → q ≤ℤ interval_highest → interval.allows r q ≡ (some_at_most t x q && some_at_least t x q))
    → info.Interval r ≡ quotient_of (info.Interval t) (info.Interval x)
quotient_is t x r not_zero same =
    let unlike : (is_possible (info.Interval t) && interval.allows x (pos 0)) ≡ false = is_false _ (λ e.
    let (possible, zero_too) = true_both (is_possible (info.Interval t)) (interval.allows x (pos 0)) e in
    let (a, here, any) = some_true (info.Interval t) (λ a. true) possible in
    not_zero a here zero_too) in
    ap info.Interval (intervals.closest_is (λ q. some_at_most t x q && some_at_least t x q) r same)
    ∙ sym (ap (λ (zero_too : Bool). if zero_too then nothing kinds.Interval else between_quotients (info.Interval t) (info.Interval x)) unlike)

-- if there is nothing to divide, or nothing to divide by, the quotient leaves nothing possible
pub no_quotient : (t x r : Interval) → IsEmpty r → ((a b : ℤ) → interval.allows t a ≡ true → interval.allows x b ≡ true → ⊥) → info.Interval r ≡ quotient_of (info.Interval t) (info.Interval x)
no_quotient t x r empty none = quotient_is t x r (λ a. none a (pos 0)) (λ q low high. empty q ∙ sym (is_false _ (λ e.
    let (one, other) = true_both (some_at_most t x q) (some_at_least t x q) e in
    let (a, a_here, inner) = some_true (info.Interval t) (λ a. some (info.Interval x) (λ b. is_quotient_at_most q a b)) one in
    let (b, b_here, passes) = some_true (info.Interval x) (λ b. is_quotient_at_most q a b) inner in
    none a b a_here b_here)))

-- if the divisor may be 0, nothing is known about the quotient
pub any_quotient : (t x : Interval) (t_lo x_lo x_hi : ℤ) → IsLeastOf t t_lo → IsLeastOf x x_lo → IsGreatestOf x x_hi → x_lo ≤ℤ pos 0 → pos 0 ≤ℤ x_hi
    → info.Interval interval.whole ≡ quotient_of (info.Interval t) (info.Interval x)
any_quotient t x t_lo x_lo x_hi t_least x_least x_most below above =
    let low : (x.lo ≤ℤ x_lo) × (x_lo ≤ℤ x.hi) = intervals.allows_true x x_lo x_least.0 in
    let high : (x.lo ≤ℤ x_hi) × (x_hi ≤ℤ x.hi) = intervals.allows_true x x_hi x_most.0 in
    let like : (is_possible (info.Interval t) && interval.allows x (pos 0)) ≡ true = both_true _ _
    (true_some (info.Interval t) (λ a. true) t_lo t_least.0 refl)
    (intervals.true_allows x (pos 0) (omega (arith, ints)) (omega (arith, ints))) in
    sym (ap (λ (zero_too : Bool). if zero_too then nothing kinds.Interval else between_quotients (info.Interval t) (info.Interval x)) like)

-- the sign of possible divisors: that of the least, if it is positive, and of the greatest, if it
-- is negative
positive_sign : (x : Interval) (x_lo b : ℤ) → IsLeastOf x x_lo → pos 0 <ℤ x_lo → interval.allows x b ≡ true → lt_z (pos 0) b ≡ true
positive_sign x x_lo b (here, least) p e = let l : x_lo ≤ℤ b = least b e in true_lt (pos 0) b (omega (arith, ints))

negative_sign : (x : Interval) (x_hi b : ℤ) → IsGreatestOf x x_hi → x_hi <ℤ pos 0 → interval.allows x b ≡ true → lt_z (pos 0) b ≡ false
negative_sign x x_hi b (here, most) p e = let l : b ≤ℤ x_hi = most b e in lt_false (pos 0) b (omega (arith, ints))

-- of positive divisors, the interval between the corners is the quotient
pub positive_quotient : (t x r : Interval) (t_lo t_hi x_lo x_hi : ℤ) → IsLeastOf t t_lo → IsGreatestOf t t_hi → IsLeastOf x x_lo → IsGreatestOf x x_hi → pos 0 <ℤ x_lo
    → ((q : ℤ) → interval.allows r q ≡ (is_in_interval_range q && is_above_corner t_lo x_lo x_hi q && is_below_corner t_hi x_lo x_hi q))
    → info.Interval r ≡ quotient_of (info.Interval t) (info.Interval x)
positive_quotient t x r t_lo t_hi x_lo x_hi t_least t_most x_least x_most p corners = quotient_is t x r
    (λ a here e. let l : x_lo ≤ℤ pos 0 = x_least.1 (pos 0) e in omega (arith, ints))
    (λ q low high.
    let from = one_sign (info.Interval t) (info.Interval x) true (λ a b. le_z a (q *ℤ b)) (λ a b. le_z (q *ℤ b) a) (λ b e. positive_sign x x_lo b x_least p e) ∙ below_corners t x t_lo x_lo x_hi t_least x_least x_most q in
    let to = one_sign (info.Interval t) (info.Interval x) true (λ a b. le_z (q *ℤ b) a) (λ a b. le_z a (q *ℤ b)) (λ b e. positive_sign x x_lo b x_least p e) ∙ above_corners t x t_hi x_lo x_hi t_most x_least x_most q in
    corners q
    ∙ ap (λ (b : Bool). b && is_above_corner t_lo x_lo x_hi q && is_below_corner t_hi x_lo x_hi q) (true_between interval_lowest q interval_highest low high)
    ∙ both_same from to)

-- a product with a negated number passes a bound exactly if the product with the number passes the
-- negated bound
negated_above : (t x s y q : ℤ) → s ≡ neg_ℤ t → y ≡ neg_ℤ x → le_z s (q *ℤ y) ≡ le_z (q *ℤ x) t
negated_above t x s y q d e =
    let n : (q *ℤ y) ≡ neg_ℤ (q *ℤ x) = product_neg q x y e in
    same_test _ _
    (λ h. let l : s ≤ℤ (q *ℤ y) = le_true s (q *ℤ y) h in true_le (q *ℤ x) t (omega (arith, ints, l, n, d)))
    (λ h. let l : (q *ℤ x) ≤ℤ t = le_true (q *ℤ x) t h in true_le s (q *ℤ y) (omega (arith, ints, l, n, d)))

negated_below : (t x s y q : ℤ) → s ≡ neg_ℤ t → y ≡ neg_ℤ x → le_z (q *ℤ y) s ≡ le_z t (q *ℤ x)
negated_below t x s y q d e =
    let n : (q *ℤ y) ≡ neg_ℤ (q *ℤ x) = product_neg q x y e in
    same_test _ _
    (λ h. let l : (q *ℤ y) ≤ℤ s = le_true (q *ℤ y) s h in true_le t (q *ℤ x) (omega (arith, ints, l, n, d)))
    (λ h. let l : t ≤ℤ (q *ℤ x) = le_true t (q *ℤ x) h in true_le (q *ℤ y) s (omega (arith, ints, l, n, d)))

-- of negative divisors, the interval between the corners of the negated ends is the quotient
pub negative_quotient : (t x r : Interval) (t_lo t_hi x_lo x_hi s_lo s_hi y_lo y_hi : ℤ) → IsLeastOf t t_lo → IsGreatestOf t t_hi → IsLeastOf x x_lo → IsGreatestOf x x_hi → x_hi <ℤ pos 0
    → ((q : ℤ) → interval.allows r q ≡ (is_in_interval_range q && is_above_corner s_lo y_lo y_hi q && is_below_corner s_hi y_lo y_hi q))
    → s_lo ≡ neg_ℤ t_hi → s_hi ≡ neg_ℤ t_lo → y_lo ≡ neg_ℤ x_hi → y_hi ≡ neg_ℤ x_lo
    → info.Interval r ≡ quotient_of (info.Interval t) (info.Interval x)
negative_quotient t x r t_lo t_hi x_lo x_hi s_lo s_hi y_lo y_hi t_least t_most x_least x_most n corners low high one other = quotient_is t x r
    (λ a here e. let l : pos 0 ≤ℤ x_hi = x_most.1 (pos 0) e in omega (arith, ints))
    (λ q from_first to_last.
    let from = one_sign (info.Interval t) (info.Interval x) false (λ a b. le_z a (q *ℤ b)) (λ a b. le_z (q *ℤ b) a) (λ b e. negative_sign x x_hi b x_most n e) ∙ above_corners t x t_hi x_lo x_hi t_most x_least x_most q in
    let to = one_sign (info.Interval t) (info.Interval x) false (λ a b. le_z (q *ℤ b) a) (λ a b. le_z a (q *ℤ b)) (λ b e. negative_sign x x_hi b x_most n e) ∙ below_corners t x t_lo x_lo x_hi t_least x_least x_most q in
    corners q
    ∙ ap (λ (b : Bool). b && is_above_corner s_lo y_lo y_hi q && is_below_corner s_hi y_lo y_hi q) (true_between interval_lowest q interval_highest from_first to_last)
    ∙ both_same
    (from ∙ or_comm (le_z (q *ℤ x_lo) t_hi) (le_z (q *ℤ x_hi) t_hi) ∙ either_same (negated_above t_hi x_hi s_lo y_lo q low one) (negated_above t_hi x_lo s_lo y_hi q low other))
    (to ∙ or_comm (le_z t_lo (q *ℤ x_lo)) (le_z t_lo (q *ℤ x_hi)) ∙ either_same (negated_below t_lo x_hi s_hi y_lo q high one) (negated_below t_lo x_lo s_hi y_hi q high other)))
