-- Intervals given by the numbers that they allow.
use Rattle.std.proofs.Common.{◌≡◌, ℤ, pos, ◌≤ℤ◌, ◌<ℤ◌, Bool, true, false, Some, arith, sym, ◌∙◌}
use Rattle.std.proofs.lemmas.Int.{ints}
use Rattle.pw_kinds.specs.declared.interval.Interval.{Interval}
use Rattle.pw_kinds.specs.Ranges.{interval_lowest, interval_highest}
use Rattle.pw_kinds.specs.Ranges.{IsSpan}
use Rattle.pw_kinds.specs.Interval.{allows, IsWithin, IsFromTo, IsLeastOf, IsGreatestOf, IsClosest, empty, whole, closest, meet_of, least_of, greatest_of}
use Rattle.pw_kinds.proofs.Order.{both_true, true_both, same_test, is_false, not_both, between_true, true_between}
use Rattle.pw_kinds.proofs.Intervals.{allows_true, true_allows, allows-whole, allows-meet, empty_none, same_values, closest_is, closest_closest, least_of_is, greatest_of_is}

pub from_to_true : (i : Interval) (lo hi v : ℤ) → IsFromTo i lo hi → lo ≤ℤ v → v ≤ℤ hi → allows i v ≡ true
from_to_true i lo hi v f p q = f v ∙ true_between lo v hi p q

pub true_from_to : (i : Interval) (lo hi v : ℤ) → IsFromTo i lo hi → allows i v ≡ true → (lo ≤ℤ v) × (v ≤ℤ hi)
true_from_to i lo hi v f e = between_true lo v hi (sym (f v) ∙ e)

-- a merge allows what lies between the higher of the low ends and the lower of the high ones
pub meet_from_to : (i j : Interval) (a b c d lo hi : ℤ) → IsFromTo i a b → IsFromTo j c d
    → ((v : ℤ) → a ≤ℤ v → v ≤ℤ b → c ≤ℤ v → v ≤ℤ d → (lo ≤ℤ v) × (v ≤ℤ hi))
    → ((v : ℤ) → lo ≤ℤ v → v ≤ℤ hi → (a ≤ℤ v) × (v ≤ℤ b) × (c ≤ℤ v) × (v ≤ℤ d))
    → IsFromTo (meet_of i j) lo hi
meet_from_to i j a b c d lo hi f g to from v = allows-meet i j v ∙ same_test _ _
    (λ e.
    let both : (allows i v ≡ true) × (allows j v ≡ true) = true_both _ _ e in
    let at_i : (a ≤ℤ v) × (v ≤ℤ b) = true_from_to i a b v f both.0 in
    let at_j : (c ≤ℤ v) × (v ≤ℤ d) = true_from_to j c d v g both.1 in
    let at : (lo ≤ℤ v) × (v ≤ℤ hi) = to v at_i.0 at_i.1 at_j.0 at_j.1 in
    true_between lo v hi at.0 at.1)
    (λ e.
    let at : (lo ≤ℤ v) × (v ≤ℤ hi) = between_true lo v hi e in
    let (low, high, low', high') = from v at.0 at.1 in
    both_true _ _ (from_to_true i a b v f low high) (from_to_true j c d v g low' high'))

-- a merge of intervals with nothing in common
pub meet_apart : (i j : Interval) (a b c d : ℤ) → IsFromTo i a b → IsFromTo j c d → b <ℤ c → meet_of i j ≡ empty
meet_apart i j a b c d f g h = same_values (meet_of i j) empty (λ v. allows-meet i j v ∙ is_false _ (λ e.
    let both : (allows i v ≡ true) × (allows j v ≡ true) = true_both _ _ e in
    let at_i : (a ≤ℤ v) × (v ≤ℤ b) = true_from_to i a b v f both.0 in
    let at_j : (c ≤ℤ v) × (v ≤ℤ d) = true_from_to j c d v g both.1 in
    omega (arith, ints)) ∙ sym (empty_none v))

pub within_from_to : (i j : Interval) (a b c d : ℤ) → IsFromTo i a b → IsFromTo j c d → c ≤ℤ a → b ≤ℤ d → IsWithin i j
within_from_to i j a b c d f g low high v e =
    let at : (a ≤ℤ v) × (v ≤ℤ b) = true_from_to i a b v f e in
    from_to_true j c d v g (omega (arith, ints)) (omega (arith, ints))

-- an interval that allows a number below the other's is not within it
pub not_within_from_to : (i j : Interval) (a b c d : ℤ) → IsFromTo i a b → IsFromTo j c d → a ≤ℤ b → a <ℤ c → IsWithin i j → ⊥
not_within_from_to i j a b c d f g ordered low w =
    let at : (c ≤ℤ a) × (a ≤ℤ d) = true_from_to j c d a g (w a (from_to_true i a b a f (omega (arith, ints)) ordered)) in
    omega (arith, ints)

least_from_to : (i : Interval) (a b : ℤ) → IsFromTo i a b → a ≤ℤ b → IsLeastOf i a
least_from_to i a b f ordered = (from_to_true i a b a f (omega (arith, ints)) ordered, λ v e. (true_from_to i a b v f e).0)

greatest_from_to : (i : Interval) (a b : ℤ) → IsFromTo i a b → a ≤ℤ b → IsGreatestOf i b
greatest_from_to i a b f ordered = (from_to_true i a b b f ordered (omega (arith, ints)), λ v e. (true_from_to i a b v f e).1)

pub ends_from_to : (i : Interval) (a b : ℤ) → IsFromTo i a b → a ≤ℤ b → (least_of i ≡ Some a) × (greatest_of i ≡ Some b)
ends_from_to i a b f ordered = (least_of_is i a (least_from_to i a b f ordered), greatest_of_is i b (greatest_from_to i a b f ordered))

pub empty_within : (i : Interval) → IsWithin empty i
empty_within i v e = absurd (not_both _ e (empty_none v))

pub whole_not_within : IsWithin whole empty → ⊥
whole_not_within w = not_both _ (w (pos 0) (allows-whole (pos 0) ∙ true_between interval_lowest (pos 0) interval_highest (omega (arith, ints)) (omega (arith, ints)))) (empty_none (pos 0))

-- the closest interval to a test that passes at both ends of a stretch, and nowhere outside it
pub closest_from_to : (p : ℤ → Bool) (lo hi : ℤ) → interval_lowest ≤ℤ lo → lo ≤ℤ hi → hi ≤ℤ interval_highest → p lo ≡ true → p hi ≡ true
    → ((v : ℤ) → p v ≡ true → (lo ≤ℤ v) × (v ≤ℤ hi)) → IsFromTo (closest p) lo hi
closest_from_to p lo hi low ordered high at_lo at_hi inside v =
    let c : IsClosest p (closest p) = closest_closest p in
    let lo_holds : allows (closest p) lo ≡ true = c.holds lo (true_between interval_lowest lo interval_highest low (omega (arith, ints))) at_lo in
    let hi_holds : allows (closest p) hi ≡ true = c.holds hi (true_between interval_lowest hi interval_highest (omega (arith, ints)) high) at_hi in
    let low_end : ((closest p).lo ≤ℤ lo) × (lo ≤ℤ (closest p).hi) = allows_true (closest p) lo lo_holds in
    let high_end : ((closest p).lo ≤ℤ hi) × (hi ≤ℤ (closest p).hi) = allows_true (closest p) hi hi_holds in
    let span : IsSpan lo hi = record { low = low; high = high; empty = λ h. absurd (omega (arith, ints)) } in
    let j : Interval = record { lo = lo; hi = hi; span = span } in
    same_test _ _
    (c.smallest j (λ w r e. let at : (lo ≤ℤ w) × (w ≤ℤ hi) = inside w e in true_between lo w hi at.0 at.1) v)
    (λ e. let at : (lo ≤ℤ v) × (v ≤ℤ hi) = between_true lo v hi e in true_allows (closest p) v (omega (arith, ints)) (omega (arith, ints)))

-- the closest interval to a test that nothing in range passes
pub closest_none : (p : ℤ → Bool) → ((v : ℤ) → interval_lowest ≤ℤ v → v ≤ℤ interval_highest → p v ≡ false) → closest p ≡ empty
closest_none p none = sym (closest_is p empty (λ v low high. empty_none v ∙ sym (none v low high)))
