-- Hulls: the interval from the least to the greatest of a set of numbers, cut to the range.
use Rattle.std.proofs.Common.{◌≡◌, ℤ, ◌≤ℤ◌, ◌+ℤ◌, ◌-ℤ◌, true, false, ◌&&◌, arith, refl, sym, ◌∙◌, ap, subst}
use Rattle.std.specs.Int.Signed.{le_z}
use Rattle.std.specs.Int.{int_max, int_min}
use Rattle.std.proofs.lemmas.Int.{ints, clamps}
use Rattle.pw_kinds.specs.declared.interval.Interval.{Interval}
use Rattle.pw_kinds.specs.Ranges.{interval_lowest, interval_highest, is_in_interval_range, IsInIntervalRange}
use Rattle.pw_kinds.specs.Interval as interval
use Rattle.pw_kinds.specs.Interval.{IsEmpty, IsLeastOf, IsGreatestOf}
use Rattle.pw_kinds.proofs.Order.{le_true, true_le, both_true, true_both, same_test, is_false, not_both, true_between, between_true}
use Rattle.pw_kinds.proofs.Intervals as intervals
use Rattle.pw_info.specs.declared.info.Info.{Info}
use Rattle.pw_info.specs.declared.info.Info.TheVariants as info
use Rattle.pw_procs.specs.Values.{NumberSet, IsSetOf, IsImageOfOne, IsImageOfTwo, image_of_one, image_of_two, hull_of}
use Rattle.pw_procs.specs.Meaning.{sum_of, difference_of}
use Rattle.pw_procs.proofs.Possible.{some_true, true_some}

-- all that an operation gives is exactly these numbers
pub image_one : (operation : ℤ → ℤ) (x : Info) → IsSetOf (IsImageOfOne operation x) (image_of_one operation x)
image_one operation x = record {
  found = λ passes z member e. let (a, here, same) = member in true_some x (λ a. passes (operation a)) a here (ap passes (sym same) ∙ e);
  known = λ passes e. let (a, here, passed) = some_true x (λ a. passes (operation a)) e in (operation a, (a, here, refl), passed);
}

pub image_two : (operation : ℤ → ℤ → ℤ) (x y : Info) → IsSetOf (IsImageOfTwo operation x y) (image_of_two operation x y)
image_two operation x y = record {
  found = λ passes z member e. let (a, b, here, there, same) = member in
      true_some x (λ a. image_of_one (operation a) y passes) a here (true_some y (λ b. passes (operation a b)) b there (ap passes (sym same) ∙ e));
  known = λ passes e.
      let (a, here, second) = some_true x (λ a. image_of_one (operation a) y passes) e in
      let (b, there, passed) = some_true y (λ b. passes (operation a b)) second in
      (operation a b, (a, b, here, there, refl), passed);
}

-- an interval of the numbers in range from the least to the greatest of a set is the hull of the
-- set
pub is_hull_of : (numbers : ℤ → Type 0) (set : NumberSet) (lo hi : ℤ) (r : Interval) → IsSetOf numbers set
    → numbers lo → numbers hi → ((z : ℤ) → numbers z → (lo ≤ℤ z) × (z ≤ℤ hi))
    → ((v : ℤ) → interval.allows r v ≡ (is_in_interval_range v && le_z lo v && le_z v hi)) → info.Interval r ≡ hull_of set
is_hull_of numbers set lo hi r are low high between same = ap info.Interval (intervals.closest_is _ r (λ v from to. same v ∙ same_test _ _
    (λ e.
    let outer : ((is_in_interval_range v && le_z lo v) ≡ true) × (le_z v hi ≡ true) = true_both _ _ e in
    let inner : (is_in_interval_range v ≡ true) × (le_z lo v ≡ true) = true_both _ _ outer.0 in
    both_true _ _ (are.found (λ z. le_z z v) lo low inner.1) (are.found (λ z. le_z v z) hi high outer.1))
    (λ e.
    let both : (set (λ z. le_z z v) ≡ true) × (set (λ z. le_z v z) ≡ true) = true_both _ _ e in
    let (below, below_in, below_v) = are.known (λ z. le_z z v) both.0 in
    let (above, above_in, above_v) = are.known (λ z. le_z v z) both.1 in
    let at_below : (lo ≤ℤ below) × (below ≤ℤ hi) = between below below_in in
    let at_above : (lo ≤ℤ above) × (above ≤ℤ hi) = between above above_in in
    let from_below : below ≤ℤ v = le_true below v below_v in
    let to_above : v ≤ℤ above = le_true v above above_v in
    both_true _ _ (both_true _ _ (true_between interval_lowest v interval_highest from to) (true_le lo v (omega (arith, ints)))) (true_le v hi (omega (arith, ints))))))

-- the hull of no number is the empty interval
pub no_hull : (numbers : ℤ → Type 0) (set : NumberSet) (r : Interval) → IsSetOf numbers set
    → ((z : ℤ) → numbers z → ⊥) → IsEmpty r → info.Interval r ≡ hull_of set
no_hull numbers set r are none empty = ap info.Interval (intervals.closest_is _ r (λ v from to. empty v ∙ sym (is_false _ (λ e.
    let both : (set (λ z. le_z z v) ≡ true) × (set (λ z. le_z v z) ≡ true) = true_both _ _ e in
    let (below, below_in, below_v) = are.known (λ z. le_z z v) both.0 in
    none below below_in))))

-- an operation gives nothing if an input leaves nothing possible
pub hull_of_none : (operation : ℤ → ℤ) (x r : Interval) → IsEmpty x → IsEmpty r
    → info.Interval r ≡ hull_of (image_of_one operation (info.Interval x))
hull_of_none operation x r none = no_hull _ _ r (image_one operation (info.Interval x))
    (λ z member. let (a, here, same) = member in not_both _ here (none a))

pub hull_of_none_first : (operation : ℤ → ℤ → ℤ) (x y r : Interval) → IsEmpty x → IsEmpty r
    → info.Interval r ≡ hull_of (image_of_two operation (info.Interval x) (info.Interval y))
hull_of_none_first operation x y r none = no_hull _ _ r (image_two operation (info.Interval x) (info.Interval y))
    (λ z member. let (a, b, here, there, same) = member in not_both _ here (none a))

pub hull_of_none_second : (operation : ℤ → ℤ → ℤ) (x y r : Interval) → IsEmpty y → IsEmpty r
    → info.Interval r ≡ hull_of (image_of_two operation (info.Interval x) (info.Interval y))
hull_of_none_second operation x y r none = no_hull _ _ r (image_two operation (info.Interval x) (info.Interval y))
    (λ z member. let (a, b, here, there, same) = member in not_both _ there (none b))

-- an interval between two numbers that an operation gives is the hull of all that it gives, if all
-- that it gives of numbers between the ends of its inputs lies between the two
pub hull_between : (operation : ℤ → ℤ → ℤ) (x y r : Interval) (a b c d lo hi : ℤ) → IsLeastOf x a → IsGreatestOf x b → IsLeastOf y c → IsGreatestOf y d
    → IsImageOfTwo operation (info.Interval x) (info.Interval y) lo → IsImageOfTwo operation (info.Interval x) (info.Interval y) hi
    → ((v w : ℤ) → a ≤ℤ v → v ≤ℤ b → c ≤ℤ w → w ≤ℤ d → (lo ≤ℤ operation v w) × (operation v w ≤ℤ hi))
    → ((v : ℤ) → interval.allows r v ≡ (is_in_interval_range v && le_z lo v && le_z v hi))
    → info.Interval r ≡ hull_of (image_of_two operation (info.Interval x) (info.Interval y))
hull_between operation x y r a b c d lo hi least_x greatest_x least_y greatest_y low high between = is_hull_of _ _ lo hi r
    (image_two operation (info.Interval x) (info.Interval y)) low high (λ z member.
    let (v, w, here, there, same) = member in
    subst (λ z. (lo ≤ℤ z) × (z ≤ℤ hi)) (sym same) (between v w (least_x.1 v here) (greatest_x.1 v here) (least_y.1 w there) (greatest_y.1 w there)))

-- the interval between the sums of the ends is the hull of the sums
pub sum_is : (x y r : Interval) (a b c d lo hi : ℤ) → IsLeastOf x a → IsGreatestOf x b → IsLeastOf y c → IsGreatestOf y d
    → lo ≡ a +ℤ c → hi ≡ b +ℤ d → ((v : ℤ) → interval.allows r v ≡ (is_in_interval_range v && le_z lo v && le_z v hi))
    → info.Interval r ≡ sum_of (info.Interval x) (info.Interval y)
sum_is x y r a b c d lo hi least_x greatest_x least_y greatest_y low high =
    hull_between (λ v w. v +ℤ w) x y r a b c d lo hi least_x greatest_x least_y greatest_y (a, c, least_x.0, least_y.0, low) (b, d, greatest_x.0, greatest_y.0, high)
    (λ v w from_v to_v from_w to_w. (omega (arith, ints), omega (arith, ints)))

-- the interval between the crossed differences of the ends is the hull of the differences
pub difference_is : (x y r : Interval) (a b c d lo hi : ℤ) → IsLeastOf x a → IsGreatestOf x b → IsLeastOf y c → IsGreatestOf y d
    → lo ≡ a -ℤ d → hi ≡ b -ℤ c → ((v : ℤ) → interval.allows r v ≡ (is_in_interval_range v && le_z lo v && le_z v hi))
    → info.Interval r ≡ difference_of (info.Interval x) (info.Interval y)
difference_is x y r a b c d lo hi least_x greatest_x least_y greatest_y low high =
    hull_between (λ v w. v -ℤ w) x y r a b c d lo hi least_x greatest_x least_y greatest_y (a, d, least_x.0, greatest_y.0, low) (b, c, greatest_x.0, least_y.0, high)
    (λ v w from_v to_v from_w to_w. (omega (arith, ints), omega (arith, ints)))

-- a number lies between the ends cut to the range exactly if it is in range and lies between the
-- ends
pub between_cut : (lo hi a b v : ℤ) → a ≡ int_max lo interval_lowest → b ≡ int_min hi interval_highest
    → (le_z a v && le_z v b) ≡ (is_in_interval_range v && le_z lo v && le_z v hi)
between_cut lo hi a b v low high = same_test _ _
    (λ e.
    let at : (a ≤ℤ v) × (v ≤ℤ b) = between_true a v b e in
    both_true _ _
    (both_true _ _
    (true_between interval_lowest v interval_highest (omega (arith, ints, clamps)) (omega (arith, ints, clamps)))
    (true_le lo v (omega (arith, ints, clamps))))
    (true_le v hi (omega (arith, ints, clamps))))
    (λ e.
    let outer : ((is_in_interval_range v && le_z lo v) ≡ true) × (le_z v hi ≡ true) = true_both _ _ e in
    let inner : (is_in_interval_range v ≡ true) × (le_z lo v ≡ true) = true_both _ _ outer.0 in
    let range : (interval_lowest ≤ℤ v) × (v ≤ℤ interval_highest) = between_true interval_lowest v interval_highest inner.0 in
    let from : lo ≤ℤ v = le_true lo v inner.1 in
    let to : v ≤ℤ hi = le_true v hi outer.1 in
    true_between a v b (omega (arith, ints, clamps)) (omega (arith, ints, clamps)))

-- if the ends cut to the range are not in order and in range, no number in range lies between the
-- ends
pub none_cut : (lo hi a b v : ℤ) → a ≡ int_max lo interval_lowest → b ≡ int_min hi interval_highest
    → ((a ≤ℤ b) × IsInIntervalRange a × IsInIntervalRange b → ⊥) → (is_in_interval_range v && le_z lo v && le_z v hi) ≡ false
none_cut lo hi a b v low high none = is_false _ (λ e.
    let at : (a ≤ℤ v) × (v ≤ℤ b) = between_true a v b (between_cut lo hi a b v low high ∙ e) in
    let range : (interval_lowest ≤ℤ v) × (v ≤ℤ interval_highest) = between_true interval_lowest v interval_highest (true_both _ _ (true_both _ _ e).0).0 in
    none (omega (arith, ints), (omega (arith, ints, clamps), omega (arith, ints)), (omega (arith, ints), omega (arith, ints, clamps))))

-- an interval cut from two ends is cut from their equals
pub from_equal_ends : (r : Interval) (a b lo hi : ℤ) → a ≡ lo → b ≡ hi
    → ((v : ℤ) → interval.allows r v ≡ (is_in_interval_range v && le_z a v && le_z v b))
    → (v : ℤ) → interval.allows r v ≡ (is_in_interval_range v && le_z lo v && le_z v hi)
from_equal_ends r a b lo hi p q same v = same v ∙ cc
