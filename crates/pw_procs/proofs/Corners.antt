-- Products and squares of intervals: they lie between the products of the ends.
use Rattle.std.proofs.Common.{◌≡◌, ℕ, ℤ, zero, suc, pos, negsuc, ◌≤ℤ◌, ◌*ℤ◌, ◌&&◌, arith, refl, sym, subst, to_z, of_z, w64, FitsSigned}
use Rattle.std.specs.Int.Signed.{le_z}
use Rattle.std.specs.Int.{int_max, int_min}
use Rattle.std.proofs.lemmas.Int.{ints, clamps, by_lt_z, to_z-of_z, fits_signed_mul}
use Rattle.std.proofs.Math.Nat.{mul-le-mul_right, mul-le-mul}
use borrow.Author.Differences.{le_out}
use Rattle.pw_kinds.specs.declared.interval.Interval.{Interval}
use Rattle.pw_kinds.specs.Ranges.{is_in_interval_range, IsInIntervalRange}
use Rattle.pw_kinds.specs.Interval as interval
use Rattle.pw_kinds.specs.Interval.{IsLeastOf, IsGreatestOf}
use Rattle.pw_kinds.proofs.Intervals.{allows_between_allowed}
use Rattle.pw_info.specs.declared.info.Info.TheVariants as info
use Rattle.pw_procs.specs.Values.{IsImageOfOne, IsImageOfTwo}
use Rattle.pw_procs.specs.Meaning.{product_of, square_of}
use Rattle.pw_procs.proofs.Hulls.{image_one, is_hull_of, hull_between}

-- a number from lo to hi
abbrev pub IsBetween : ℤ → ℤ → ℤ → Type 0
IsBetween lo hi z = (lo ≤ℤ z) × (z ≤ℤ hi)

-- a number in range as the code passes it on
pub in_range_passed : (n : ℤ) → IsInIntervalRange n → IsInIntervalRange (to_z w64 (of_z w64 n))
in_range_passed n within = (omega (arith, ints, within), omega (arith, ints, within))

-- the product of two numbers in range is the same after each is written to 64 bits and read again
pub product_read : (a b p : ℤ) → IsInIntervalRange a → IsInIntervalRange b → p ≡ to_z w64 (of_z w64 a) *ℤ to_z w64 (of_z w64 b) → to_z w64 (of_z w64 p) ≡ a *ℤ b
product_read a b p at_a at_b e =
    let same_a : to_z w64 (of_z w64 a) ≡ a = omega (arith, ints) in
    let same_b : to_z w64 (of_z w64 b) ≡ b = omega (arith, ints) in
    let same_p : p ≡ a *ℤ b = cc in
    let fits : FitsSigned w64 (a *ℤ b) = fits_signed_mul w64 a b 1000000 1000000 (omega (arith, ints)) (omega (arith, ints)) (omega arith) in
    let same : to_z w64 (of_z w64 (a *ℤ b)) ≡ a *ℤ b = to_z-of_z w64 (a *ℤ b) fits in
    rw same_p same

-- factors in order give products in order, reversed by a negative factor
pub product_up : (a b : ℤ) (k : ℕ) → a ≤ℤ b → (a *ℤ pos k) ≤ℤ (b *ℤ pos k)
product_up a b k h = omega (arith, ints, mul-le-mul_right k (le_out a b h))

pub product_down : (a b : ℤ) (k : ℕ) → a ≤ℤ b → (b *ℤ negsuc k) ≤ℤ (a *ℤ negsuc k)
product_down a b k h = omega (arith, ints, mul-le-mul_right (suc k) (le_out a b h))

-- a product with a factor between two others lies where their products lie
product_between : (lo hi a b v k : ℤ) → IsBetween a b v → IsBetween lo hi (a *ℤ k) → IsBetween lo hi (b *ℤ k) → IsBetween lo hi (v *ℤ k)
product_between lo hi a b v (pos k) (from, to) (low, low_hi) (high_lo, high) =
    let up_from : (a *ℤ pos k) ≤ℤ (v *ℤ pos k) = product_up a v k from in
    let up_to : (v *ℤ pos k) ≤ℤ (b *ℤ pos k) = product_up v b k to in
    (omega (arith, ints), omega (arith, ints))
product_between lo hi a b v (negsuc k) (from, to) (low, low_hi) (high_lo, high) =
    let down_from : (v *ℤ negsuc k) ≤ℤ (a *ℤ negsuc k) = product_down a v k from in
    let down_to : (b *ℤ negsuc k) ≤ℤ (v *ℤ negsuc k) = product_down v b k to in
    (omega (arith, ints), omega (arith, ints))

-- a product of numbers between ends lies where the four products of the ends lie
product_within : (lo hi a b c d v w : ℤ) → IsBetween a b v → IsBetween c d w
    → IsBetween lo hi (a *ℤ c) → IsBetween lo hi (a *ℤ d) → IsBetween lo hi (b *ℤ c) → IsBetween lo hi (b *ℤ d)
    → IsBetween lo hi (v *ℤ w)
product_within lo hi a b c d v w at_v at_w ac ad bc bd =
    let vc : IsBetween lo hi (v *ℤ c) = product_between lo hi a b v c at_v ac bc in
    let vd : IsBetween lo hi (v *ℤ d) = product_between lo hi a b v d at_v ad bd in
    let cv : IsBetween lo hi (c *ℤ v) = (omega (arith, ints), omega (arith, ints)) in
    let dv : IsBetween lo hi (d *ℤ v) = (omega (arith, ints), omega (arith, ints)) in
    let wv : IsBetween lo hi (w *ℤ v) = product_between lo hi c d w v at_w cv dv in
    (omega (arith, ints), omega (arith, ints))

-- what holds of two numbers holds of the least and of the greatest of them
of_least : (P : ℤ → Type 0) (a b : ℤ) → P a → P b → P (int_min a b)
of_least P a b p q = by_lt_z a b
    (λ l. let e : a ≡ int_min a b = omega (arith, ints, clamps) in subst P e p)
    (λ l. let e : b ≡ int_min a b = omega (arith, ints, clamps) in subst P e q)

of_greatest : (P : ℤ → Type 0) (a b : ℤ) → P a → P b → P (int_max a b)
of_greatest P a b p q = by_lt_z a b
    (λ l. let e : b ≡ int_max a b = omega (arith, ints, clamps) in subst P e q)
    (λ l. let e : a ≡ int_max a b = omega (arith, ints, clamps) in subst P e p)

-- a number is a product of possible numbers
abbrev IsProduct : Interval → Interval → ℤ → Type 0
IsProduct x y = IsImageOfTwo (λ v w. v *ℤ w) (info.Interval x) (info.Interval y)

-- the least and the greatest of the products of the ends span the hull of the products
pub product_is : (x y r : Interval) (a b c d p q s t : ℤ) → IsLeastOf x a → IsGreatestOf x b → IsLeastOf y c → IsGreatestOf y d
    → p ≡ a *ℤ c → q ≡ a *ℤ d → s ≡ b *ℤ c → t ≡ b *ℤ d
    → ((v : ℤ) → interval.allows r v ≡ (is_in_interval_range v && le_z (int_min (int_min p q) (int_min s t)) v && le_z v (int_max (int_max p q) (int_max s t))))
    → info.Interval r ≡ product_of (info.Interval x) (info.Interval y)
product_is x y r a b c d p q s t least_x greatest_x least_y greatest_y ac ad bc bd =
    let lo : ℤ = int_min (int_min p q) (int_min s t) in
    let hi : ℤ = int_max (int_max p q) (int_max s t) in
    let at_p : IsProduct x y p = (a, c, least_x.0, least_y.0, ac) in
    let at_q : IsProduct x y q = (a, d, least_x.0, greatest_y.0, ad) in
    let at_s : IsProduct x y s = (b, c, greatest_x.0, least_y.0, bc) in
    let at_t : IsProduct x y t = (b, d, greatest_x.0, greatest_y.0, bd) in
    hull_between (λ v w. v *ℤ w) x y r a b c d lo hi least_x greatest_x least_y greatest_y
    (of_least (IsProduct x y) _ _ (of_least (IsProduct x y) p q at_p at_q) (of_least (IsProduct x y) s t at_s at_t))
    (of_greatest (IsProduct x y) _ _ (of_greatest (IsProduct x y) p q at_p at_q) (of_greatest (IsProduct x y) s t at_s at_t))
    (λ v w from_v to_v from_w to_w. product_within lo hi a b c d v w (from_v, to_v) (from_w, to_w)
    (omega (arith, ints, clamps), omega (arith, ints, clamps)) (omega (arith, ints, clamps), omega (arith, ints, clamps))
    (omega (arith, ints, clamps), omega (arith, ints, clamps)) (omega (arith, ints, clamps), omega (arith, ints, clamps)))

-- a number is the square of a possible number
abbrev IsSquare : Interval → ℤ → Type 0
IsSquare x = IsImageOfOne (λ v. v *ℤ v) (info.Interval x)

-- no square is below 0
square_least : (v : ℤ) → pos 0 ≤ℤ (v *ℤ v)
square_least (pos n) = omega (arith, ints)
square_least (negsuc n) = omega (arith, ints)

-- squares are in order as their roots are, or against it below 0
square_up : (a b : ℤ) → pos 0 ≤ℤ a → a ≤ℤ b → (a *ℤ a) ≤ℤ (b *ℤ b)
square_up (pos a) (pos b) from up_to = omega (arith, ints, mul-le-mul (le_out (pos a) (pos b) up_to) (le_out (pos a) (pos b) up_to))
square_up (pos a) (negsuc b) from up_to = absurd (omega (arith, ints))
square_up (negsuc a) b from up_to = absurd (omega (arith, ints))

square_down : (a b : ℤ) → a ≤ℤ b → b ≤ℤ pos 0 → (b *ℤ b) ≤ℤ (a *ℤ a)
square_down (negsuc a) (negsuc b) from up_to = omega (arith, ints, mul-le-mul (le_out (negsuc a) (negsuc b) from) (le_out (negsuc a) (negsuc b) from))
square_down (pos a) (negsuc b) from up_to = absurd (omega (arith, ints))
square_down a (pos zero) from up_to = let least : pos 0 ≤ℤ (a *ℤ a) = square_least a in omega (arith, ints)
square_down a (pos (suc b)) from up_to = absurd (omega (arith, ints))

-- the square of a number between two ends is at most the greater of their squares
square_most : (a b v : ℤ) → IsBetween a b v → (v *ℤ v) ≤ℤ int_max (a *ℤ a) (b *ℤ b)
square_most a b v (from, to) = by_lt_z v (pos 0)
    (λ l. let below : (v *ℤ v) ≤ℤ (a *ℤ a) = square_down a v from (omega (arith, ints)) in omega (arith, ints, clamps))
    (λ l. let below : (v *ℤ v) ≤ℤ (b *ℤ b) = square_up v b l to in omega (arith, ints, clamps))

-- above 0 the squares of the ends span the hull of the squares
pub square_above : (x r : Interval) (a b p q : ℤ) → IsLeastOf x a → IsGreatestOf x b → p ≡ a *ℤ a → q ≡ b *ℤ b → pos 0 ≤ℤ a
    → ((v : ℤ) → interval.allows r v ≡ (is_in_interval_range v && le_z p v && le_z v q)) → info.Interval r ≡ square_of (info.Interval x)
square_above x r a b p q (a_in, from) (b_in, to) low high above = is_hull_of _ _ p q r (image_one (λ v. v *ℤ v) (info.Interval x))
    (a, a_in, low) (b, b_in, high) (λ z member.
    let (v, here, same) = member in
    let from_v : (a *ℤ a) ≤ℤ (v *ℤ v) = square_up a v above (from v here) in
    let root_from : a ≤ℤ v = from v here in
    let to_v : (v *ℤ v) ≤ℤ (b *ℤ b) = square_up v b (omega (arith, ints)) (to v here) in
    (omega (arith, ints), omega (arith, ints)))

-- below 0 they do so reversed
pub square_below : (x r : Interval) (a b p q : ℤ) → IsLeastOf x a → IsGreatestOf x b → p ≡ a *ℤ a → q ≡ b *ℤ b → b ≤ℤ pos 0
    → ((v : ℤ) → interval.allows r v ≡ (is_in_interval_range v && le_z q v && le_z v p)) → info.Interval r ≡ square_of (info.Interval x)
square_below x r a b p q (a_in, from) (b_in, to) low high below = is_hull_of _ _ q p r (image_one (λ v. v *ℤ v) (info.Interval x))
    (b, b_in, high) (a, a_in, low) (λ z member.
    let (v, here, same) = member in
    let from_v : (b *ℤ b) ≤ℤ (v *ℤ v) = square_down v b (to v here) below in
    let root_to : v ≤ℤ b = to v here in
    let to_v : (v *ℤ v) ≤ℤ (a *ℤ a) = square_down a v (from v here) (omega (arith, ints)) in
    (omega (arith, ints), omega (arith, ints)))

-- across 0 the hull goes from 0 to the greater of the squares of the ends
pub square_across : (x r : Interval) (a b p q hi : ℤ) → IsLeastOf x a → IsGreatestOf x b → p ≡ a *ℤ a → q ≡ b *ℤ b
    → a ≤ℤ pos 0 → pos 0 ≤ℤ b → hi ≡ int_max p q
    → ((v : ℤ) → interval.allows r v ≡ (is_in_interval_range v && le_z (pos 0) v && le_z v hi)) → info.Interval r ≡ square_of (info.Interval x)
square_across x r a b p q hi (a_in, from) (b_in, to) low high below above most_is = is_hull_of _ _ (pos 0) hi r
    (image_one (λ v. v *ℤ v) (info.Interval x))
    (pos 0, allows_between_allowed x a (pos 0) b a_in b_in below above, refl)
    (subst (IsSquare x) (sym most_is) (of_greatest (IsSquare x) p q (a, a_in, low) (b, b_in, high))) (λ z member.
    let (v, here, same) = member in
    let from_v : pos 0 ≤ℤ (v *ℤ v) = square_least v in
    let to_v : (v *ℤ v) ≤ℤ int_max (a *ℤ a) (b *ℤ b) = square_most a b v (from v here, to v here) in
    (omega (arith, ints), omega (arith, ints, clamps)))
