-- Intervals by what they leave possible.
use Rattle.std.proofs.Common.{◌≡◌, ℤ, ◌≤ℤ◌, ◌<ℤ◌, Bool, true, false, ◌&&◌, Option, Some, None, arith, refl, sym, ◌∙◌, subst, ap, ◌⊎◌, inl, inr}
use Rattle.std.specs.Int.Signed.{le_z}
use Rattle.std.specs.Int.{int_max, int_min}
use Rattle.std.proofs.lemmas.Int.{ints, clamps, by_lt_z}
use Rattle.std.proofs.Props.{props}
use mathlib.Core.HLevel.{is_prop→PathP}
use Rattle.pw_kinds.specs.declared.interval.Interval.{Interval}
use Rattle.pw_kinds.specs.Ranges.{interval_lowest, interval_highest, interval_numbers, is_in_interval_range}
use Rattle.pw_kinds.specs.Ranges.{IsSpan}
use Rattle.pw_kinds.specs.Interval.{allows, empty, checked, from_to, between, closest, whole, meet_of, least_of, greatest_of, IsEmpty, IsWithin, IsFromTo, AreEnds, IsLeastOf, IsGreatestOf, IsClosest}
use Rattle.pw_kinds.proofs.Order.{true_le, both_true, true_both, same_test, is_false, not_both, between_true, true_between}
use Rattle.pw_kinds.proofs.Searches.{IsLeast, IsGreatest, least_is, greatest_is}

span_prop : (lo hi : ℤ) → IsProp (IsSpan lo hi)
span_prop lo hi = hlevel props

-- intervals with the same ends are equal
pub same_ends : (i j : Interval) → i.lo ≡ j.lo → i.hi ≡ j.hi → i ≡ j
same_ends i j p q = λ k. record { lo = p k; hi = q k; span = is_prop→PathP (λ k. IsSpan (p k) (q k)) (λ k. span_prop (p k) (q k)) i.span j.span k }

pub true_allows : (i : Interval) (v : ℤ) → i.lo ≤ℤ v → v ≤ℤ i.hi → allows i v ≡ true
true_allows i v p q = true_between i.lo v i.hi p q

pub allows_true : (i : Interval) (v : ℤ) → allows i v ≡ true → (i.lo ≤ℤ v) × (v ≤ℤ i.hi)
allows_true i v e = between_true i.lo v i.hi e

-- what is possible is in range
pub allows_in_range : (i : Interval) (v : ℤ) → allows i v ≡ true → (interval_lowest ≤ℤ v) × (v ≤ℤ interval_highest)
allows_in_range i v e =
    let ends : (i.lo ≤ℤ v) × (v ≤ℤ i.hi) = allows_true i v e in
    let span : IsSpan i.lo i.hi = i.span in
    let low : interval_lowest ≤ℤ i.lo = span.low in
    let high : i.hi ≤ℤ interval_highest = span.high in
    (omega (arith, ints), omega (arith, ints))

-- an interval with its ends crossed is the empty one
pub crossed_is : (i : Interval) → i.hi <ℤ i.lo → i ≡ empty
crossed_is i h = let e : (i.lo ≡ interval_highest) × (i.hi ≡ interval_lowest) = i.span.empty h in same_ends i empty e.0 e.1

pub crossed_none : (i : Interval) (v : ℤ) → i.hi <ℤ i.lo → allows i v ≡ true → ⊥
crossed_none i v h e = let ends : (i.lo ≤ℤ v) × (v ≤ℤ i.hi) = allows_true i v e in omega (arith, ints)

pub empty_none : (v : ℤ) → allows empty v ≡ false
empty_none v = is_false _ (crossed_none empty v (omega (arith, ints)))

-- intervals that leave the same numbers possible are equal
pub same_values : (i j : Interval) → ((v : ℤ) → allows i v ≡ allows j v) → i ≡ j
same_values i j same = by_lt_z i.hi i.lo
    (λ h. by_lt_z j.hi j.lo
    (λ k. crossed_is i h ∙ sym (crossed_is j k))
    (λ k. absurd (crossed_none i j.lo h (same j.lo ∙ true_allows j j.lo (omega (arith, ints)) k))))
    (λ h.
    let low : (j.lo ≤ℤ i.lo) × (i.lo ≤ℤ j.hi) = allows_true j i.lo (sym (same i.lo) ∙ true_allows i i.lo (omega (arith, ints)) h) in
    let high : (j.lo ≤ℤ i.hi) × (i.hi ≤ℤ j.hi) = allows_true j i.hi (sym (same i.hi) ∙ true_allows i i.hi h (omega (arith, ints))) in
    let low' : (i.lo ≤ℤ j.lo) × (j.lo ≤ℤ i.hi) = allows_true i j.lo (same j.lo ∙ true_allows j j.lo (omega (arith, ints)) (omega (arith, ints))) in
    let high' : (i.lo ≤ℤ j.hi) × (j.hi ≤ℤ i.hi) = allows_true i j.hi (same j.hi ∙ true_allows j j.hi (omega (arith, ints)) (omega (arith, ints))) in
    same_ends i j (omega (arith, ints)) (omega (arith, ints)))

checked_ends : (lo hi : ℤ) (b : Bool) (e : (le_z interval_lowest lo && le_z lo hi && le_z hi interval_highest) ≡ b) → b ≡ true → ((checked lo hi b e).lo ≡ lo) × ((checked lo hi b e).hi ≡ hi)
unfolding checked
checked_ends lo hi true e t = (refl, refl)
checked_ends lo hi false e t = absurd (cc)

in_order : (lo hi : ℤ) → interval_lowest ≤ℤ lo → lo ≤ℤ hi → hi ≤ℤ interval_highest → (le_z interval_lowest lo && le_z lo hi && le_z hi interval_highest) ≡ true
in_order lo hi p q r = both_true _ _ (both_true _ _ (true_le interval_lowest lo p) (true_le lo hi q)) (true_le hi interval_highest r)

-- the interval between two ends in range and in order has these ends
pub between_ends : (lo hi : ℤ) → interval_lowest ≤ℤ lo → lo ≤ℤ hi → hi ≤ℤ interval_highest → ((between (Some lo) (Some hi)).lo ≡ lo) × ((between (Some lo) (Some hi)).hi ≡ hi)
between_ends lo hi p q r = checked_ends lo hi _ refl (in_order lo hi p q r)

-- the ends of an interval, by their order and their range
pub ends : (lo hi : ℤ) → interval_lowest ≤ℤ lo → lo ≤ℤ hi → hi ≤ℤ interval_highest → AreEnds lo hi
ends lo hi p q r = (q, (p, omega (arith, ints)), (omega (arith, ints), r))

-- the interval from one end to another leaves possible exactly the numbers between them
pub from_to_values : (lo hi : ℤ) → AreEnds lo hi → IsFromTo (from_to lo hi) lo hi
from_to_values lo hi (order, low, high) v =
    let at : ((from_to lo hi).lo ≡ lo) × ((from_to lo hi).hi ≡ hi) = between_ends lo hi low.0 order high.1 in
    ap (λ (x : ℤ). le_z x v && le_z v (from_to lo hi).hi) at.0 ∙ ap (λ (x : ℤ). le_z lo v && le_z v x) at.1

-- and no other interval does
pub from_to_only : (lo hi : ℤ) (i : Interval) → AreEnds lo hi → IsFromTo i lo hi → i ≡ from_to lo hi
from_to_only lo hi i are f = same_values i (from_to lo hi) (λ v. f v ∙ sym (from_to_values lo hi are v))

-- an interval that leaves no number in range possible is the empty one
pub empty_is : (i : Interval) → ((v : ℤ) → interval_lowest ≤ℤ v → v ≤ℤ interval_highest → allows i v ≡ false) → i ≡ empty
empty_is i none = by_lt_z i.hi i.lo (crossed_is i) (λ h.
    let span : IsSpan i.lo i.hi = i.span in
    let low : interval_lowest ≤ℤ i.lo = span.low in
    let high : i.hi ≤ℤ interval_highest = span.high in
    absurd (not_both _ (true_allows i i.lo (omega (arith, ints)) h) (none i.lo low (omega (arith, ints)))))

between_is : (p : ℤ → Bool) (i : Interval) (a b : Option ℤ) → ((v : ℤ) → interval_lowest ≤ℤ v → v ≤ℤ interval_highest → allows i v ≡ p v)
    → IsLeast p interval_numbers interval_lowest a → IsGreatest p interval_numbers interval_highest b → i ≡ between a b
between_is p i None b same low high = empty_is i (λ v l h. same v l h ∙ low v l (omega (arith, ints)))
between_is p i (Some lo) None same low high = empty_is i (λ v l h. same v l h ∙ high v (omega (arith, ints)) h)
between_is p i (Some lo) (Some hi) same low high =
    let (low_from, low_to, low_passes, low_least) = low in
    let (high_from, high_to, high_passes, high_most) = high in
    let at_low : (i.lo ≤ℤ lo) × (lo ≤ℤ i.hi) = allows_true i lo (same lo low_from (omega (arith, ints)) ∙ low_passes) in
    let at_high : (i.lo ≤ℤ hi) × (hi ≤ℤ i.hi) = allows_true i hi (same hi (omega (arith, ints)) high_to ∙ high_passes) in
    let span : IsSpan i.lo i.hi = i.span in
    let first_low : interval_lowest ≤ℤ i.lo = span.low in
    let last_high : i.hi ≤ℤ interval_highest = span.high in
    let passes_low : p i.lo ≡ true = sym (same i.lo first_low (omega (arith, ints))) ∙ true_allows i i.lo (omega (arith, ints)) (omega (arith, ints)) in
    let passes_high : p i.hi ≡ true = sym (same i.hi (omega (arith, ints)) last_high) ∙ true_allows i i.hi (omega (arith, ints)) (omega (arith, ints)) in
    let not_below : lo ≤ℤ i.lo = by_lt_z i.lo lo (λ l. absurd (not_both _ passes_low (low_least i.lo first_low l))) (λ l. l) in
    let not_above : i.hi ≤ℤ hi = by_lt_z hi i.hi (λ l. absurd (not_both _ passes_high (high_most i.hi l last_high))) (λ l. l) in
    let ends : ((between (Some lo) (Some hi)).lo ≡ lo) × ((between (Some lo) (Some hi)).hi ≡ hi) = between_ends lo hi low_from (omega (arith, ints)) high_to in
    let same_lo : i.lo ≡ lo = omega (arith, ints) in
    let same_hi : i.hi ≡ hi = omega (arith, ints) in
    same_ends i (between (Some lo) (Some hi)) (same_lo ∙ sym ends.0) (same_hi ∙ sym ends.1)

-- the interval that leaves possible exactly what passes, of the numbers in range, is the closest
pub closest_is : (p : ℤ → Bool) (i : Interval) → ((v : ℤ) → interval_lowest ≤ℤ v → v ≤ℤ interval_highest → allows i v ≡ p v) → i ≡ closest p
unfolding closest
closest_is p i same = between_is p i _ _ same (least_is p interval_numbers interval_lowest) (greatest_is p interval_numbers interval_highest)

allows_between : (p : ℤ → Bool) (a b : Option ℤ) → IsLeast p interval_numbers interval_lowest a → IsGreatest p interval_numbers interval_highest b → IsClosest p (between a b)
allows_between p None b low high = record {
  holds = λ v r e. let range : (interval_lowest ≤ℤ v) × (v ≤ℤ interval_highest) = between_true interval_lowest v interval_highest r in absurd (not_both _ e (low v range.0 (omega (arith, ints))));
  smallest = λ j each v e. absurd (not_both _ e (empty_none v));
}
allows_between p (Some lo) None low high = record {
  holds = λ v r e. let range : (interval_lowest ≤ℤ v) × (v ≤ℤ interval_highest) = between_true interval_lowest v interval_highest r in absurd (not_both _ e (high v (omega (arith, ints)) range.1));
  smallest = λ j each v e. absurd (not_both _ e (empty_none v));
}
allows_between p (Some lo) (Some hi) low high =
    let (low_from, low_to, low_passes, low_least) = low in
    let (high_from, high_to, high_passes, high_most) = high in
    let ordered : lo ≤ℤ hi = by_lt_z hi lo (λ l. absurd (not_both _ low_passes (high_most lo l (omega (arith, ints))))) (λ l. l) in
    let ends : ((between (Some lo) (Some hi)).lo ≡ lo) × ((between (Some lo) (Some hi)).hi ≡ hi) = between_ends lo hi low_from ordered high_to in
    let lo_is : (between (Some lo) (Some hi)).lo ≡ lo = ends.0 in
    let hi_is : (between (Some lo) (Some hi)).hi ≡ hi = ends.1 in
    record {
      holds = λ v r e.
          let range : (interval_lowest ≤ℤ v) × (v ≤ℤ interval_highest) = between_true interval_lowest v interval_highest r in
          let from : lo ≤ℤ v = by_lt_z v lo (λ l. absurd (not_both _ e (low_least v range.0 l))) (λ l. l) in
          let to : v ≤ℤ hi = by_lt_z hi v (λ l. absurd (not_both _ e (high_most v l range.1))) (λ l. l) in
          true_allows (between (Some lo) (Some hi)) v (subst (λ (x : ℤ). x ≤ℤ v) (sym lo_is) from) (subst (λ (x : ℤ). v ≤ℤ x) (sym hi_is) to);
      smallest = λ j each v e.
          let at : ((between (Some lo) (Some hi)).lo ≤ℤ v) × (v ≤ℤ (between (Some lo) (Some hi)).hi) = allows_true (between (Some lo) (Some hi)) v e in
          let from : lo ≤ℤ v = subst (λ (x : ℤ). x ≤ℤ v) lo_is at.0 in
          let to : v ≤ℤ hi = subst (λ (x : ℤ). v ≤ℤ x) hi_is at.1 in
          let j_low : (j.lo ≤ℤ lo) × (lo ≤ℤ j.hi) = allows_true j lo (each lo (true_between interval_lowest lo interval_highest low_from (omega (arith, ints))) low_passes) in
          let j_high : (j.lo ≤ℤ hi) × (hi ≤ℤ j.hi) = allows_true j hi (each hi (true_between interval_lowest hi interval_highest (omega (arith, ints)) high_to) high_passes) in
          true_allows j v (omega (arith, ints)) (omega (arith, ints));
    }

-- the closest interval is what its name says
pub closest_closest : (p : ℤ → Bool) → IsClosest p (closest p)
unfolding closest
closest_closest p = allows_between p _ _ (least_is p interval_numbers interval_lowest) (greatest_is p interval_numbers interval_highest)

-- the interval of the whole range is the closest to every number
pub whole_is : (lo hi : ℤ) (s : IsSpan lo hi) → lo ≡ interval_lowest → hi ≡ interval_highest → record { lo = lo; hi = hi; span = s } ≡ whole
whole_is lo hi s p q =
    let i : Interval = record { lo = lo; hi = hi; span = s } in
    closest_is (λ v. true) i (λ v l h. true_allows i v (omega (arith, ints)) (omega (arith, ints)))

-- what is possible in the whole interval, and in a merge
pub allows-whole : (v : ℤ) → allows whole v ≡ is_in_interval_range v
allows-whole v = same_test _ _
    (λ e. let range : (interval_lowest ≤ℤ v) × (v ≤ℤ interval_highest) = allows_in_range whole v e in true_between interval_lowest v interval_highest range.0 range.1)
    (λ e. (closest_closest (λ w. true)).holds v e refl)

-- both parts of a merge hold it: its numbers lie between two that both leave possible
pub allows-meet : (i j : Interval) (v : ℤ) → allows (meet_of i j) v ≡ (allows i v && allows j v)
allows-meet i j v =
    let closest' : IsClosest (λ w. allows i w && allows j w) (meet_of i j) = closest_closest (λ w. allows i w && allows j w) in
    same_test _ _
    (λ e. both_true _ _
    (closest'.smallest i (λ w r h. (true_both _ _ h).0) v e)
    (closest'.smallest j (λ w r h. (true_both _ _ h).1) v e))
    (λ e.
    let range : (interval_lowest ≤ℤ v) × (v ≤ℤ interval_highest) = allows_in_range i v (true_both _ _ e).0 in
    closest'.holds v (true_between interval_lowest v interval_highest range.0 range.1) e)

-- an interval from a merge: what both leave possible
pub meet_is : (i j r : Interval) → ((v : ℤ) → allows r v ≡ (allows i v && allows j v)) → r ≡ meet_of i j
meet_is i j r same = same_values r (meet_of i j) (λ v. same v ∙ sym (allows-meet i j v))

least_from : (i : Interval) (n : ℤ) (o : Option ℤ) → IsLeastOf i n → IsLeast (allows i) interval_numbers interval_lowest o → o ≡ Some n
least_from i n None (here, bound) low = let range : (interval_lowest ≤ℤ n) × (n ≤ℤ interval_highest) = allows_in_range i n here in absurd (not_both _ here (low n range.0 (omega (arith, ints))))
least_from i n (Some x) (here, bound) (from, to, passes, least') =
    let range : (interval_lowest ≤ℤ n) × (n ≤ℤ interval_highest) = allows_in_range i n here in
    let up : n ≤ℤ x = bound x passes in
    let down : x ≤ℤ n = by_lt_z n x (λ l. absurd (not_both _ here (least' n range.0 l))) (λ l. l) in
    let e : x ≡ n = omega (arith, ints) in ap Some e

greatest_from : (i : Interval) (n : ℤ) (o : Option ℤ) → IsGreatestOf i n → IsGreatest (allows i) interval_numbers interval_highest o → o ≡ Some n
greatest_from i n None (here, bound) high = let range : (interval_lowest ≤ℤ n) × (n ≤ℤ interval_highest) = allows_in_range i n here in absurd (not_both _ here (high n (omega (arith, ints)) range.1))
greatest_from i n (Some x) (here, bound) (from, to, passes, most) =
    let range : (interval_lowest ≤ℤ n) × (n ≤ℤ interval_highest) = allows_in_range i n here in
    let down : x ≤ℤ n = bound x passes in
    let up : n ≤ℤ x = by_lt_z x n (λ l. absurd (not_both _ here (most n l range.1))) (λ l. l) in
    let e : x ≡ n = omega (arith, ints) in ap Some e

-- the least number possible, by what it is
pub least_of_is : (i : Interval) (n : ℤ) → IsLeastOf i n → least_of i ≡ Some n
unfolding least_of
least_of_is i n h = least_from i n _ h (least_is (allows i) interval_numbers interval_lowest)

pub greatest_of_is : (i : Interval) (n : ℤ) → IsGreatestOf i n → greatest_of i ≡ Some n
unfolding greatest_of
greatest_of_is i n h = greatest_from i n _ h (greatest_is (allows i) interval_numbers interval_highest)

-- ---- the meaning of the code's ends

pub end_least : (i : Interval) (n : ℤ) → n ≡ i.lo → (IsEmpty i → ⊥) → IsLeastOf i n
end_least i n e some =
    let ordered : i.lo ≤ℤ i.hi = by_lt_z i.hi i.lo (λ h. absurd (some (λ v. is_false _ (crossed_none i v h)))) (λ l. l) in
    (true_allows i n (omega (arith, ints)) (omega (arith, ints)), λ v h. let at : (i.lo ≤ℤ v) × (v ≤ℤ i.hi) = allows_true i v h in omega (arith, ints))

pub end_greatest : (i : Interval) (n : ℤ) → n ≡ i.hi → (IsEmpty i → ⊥) → IsGreatestOf i n
end_greatest i n e some =
    let ordered : i.lo ≤ℤ i.hi = by_lt_z i.hi i.lo (λ h. absurd (some (λ v. is_false _ (crossed_none i v h)))) (λ l. l) in
    (true_allows i n (omega (arith, ints)) (omega (arith, ints)), λ v h. let at : (i.lo ≤ℤ v) × (v ≤ℤ i.hi) = allows_true i v h in omega (arith, ints))

pub meet_crossed : (i j : Interval) (lo hi : ℤ) → lo ≡ int_max i.lo j.lo → hi ≡ int_min i.hi j.hi → hi <ℤ lo → empty ≡ meet_of i j
meet_crossed i j lo hi p q h = meet_is i j empty (λ v. empty_none v ∙ sym (is_false _ (λ e.
    let both : (allows i v ≡ true) × (allows j v ≡ true) = true_both _ _ e in
    let at_i : (i.lo ≤ℤ v) × (v ≤ℤ i.hi) = allows_true i v both.0 in
    let at_j : (j.lo ≤ℤ v) × (v ≤ℤ j.hi) = allows_true j v both.1 in
    omega (arith, ints, clamps))))

pub meet_between_values : (i j : Interval) (lo hi v : ℤ) → lo ≡ int_max i.lo j.lo → hi ≡ int_min i.hi j.hi → (le_z lo v && le_z v hi) ≡ (allows i v && allows j v)
meet_between_values i j lo hi v p q = same_test _ _
    (λ e. let at : (lo ≤ℤ v) × (v ≤ℤ hi) = between_true lo v hi e in
    both_true _ _
    (true_allows i v (omega (arith, ints, clamps)) (omega (arith, ints, clamps)))
    (true_allows j v (omega (arith, ints, clamps)) (omega (arith, ints, clamps))))
    (λ e.
    let both : (allows i v ≡ true) × (allows j v ≡ true) = true_both _ _ e in
    let at_i : (i.lo ≤ℤ v) × (v ≤ℤ i.hi) = allows_true i v both.0 in
    let at_j : (j.lo ≤ℤ v) × (v ≤ℤ j.hi) = allows_true j v both.1 in
    true_between lo v hi (omega (arith, ints, clamps)) (omega (arith, ints, clamps)))

pub meet_between : (i j : Interval) (lo hi : ℤ) (s : IsSpan lo hi) → lo ≡ int_max i.lo j.lo → hi ≡ int_min i.hi j.hi → record { lo = lo; hi = hi; span = s } ≡ meet_of i j
meet_between i j lo hi s p q = meet_is i j (record { lo = lo; hi = hi; span = s }) (λ v. meet_between_values i j lo hi v p q)

pub meet_values : (i j r : Interval) → r ≡ meet_of i j → (v : ℤ) → allows r v ≡ (allows i v && allows j v)
meet_values i j r e v = ap (λ (k : Interval). allows k v) e ∙ allows-meet i j v

-- both ends are in range, also those of the empty interval
pub span_low : (i : Interval) → interval_lowest ≤ℤ i.lo
span_low i = let span : IsSpan i.lo i.hi = i.span in span.low

pub span_high : (i : Interval) → i.hi ≤ℤ interval_highest
span_high i = let span : IsSpan i.lo i.hi = i.span in span.high

pub least_end : (i : Interval) → i.lo ≤ℤ interval_highest
least_end i = by_lt_z i.hi i.lo
    (λ h. let e : i.lo ≡ interval_highest = (i.span.empty h).0 in omega (arith, ints, e))
    (λ h. let high : i.hi ≤ℤ interval_highest = i.span.high in omega (arith, ints, h, high))

pub greatest_end : (i : Interval) → interval_lowest ≤ℤ i.hi
greatest_end i = by_lt_z i.hi i.lo
    (λ h. let e : i.hi ≡ interval_lowest = (i.span.empty h).1 in omega (arith, ints, e))
    (λ h. let low : interval_lowest ≤ℤ i.lo = i.span.low in omega (arith, ints, h, low))

-- one interval is within another exactly if its ends lie between the other's
pub within_ends : (i j : Interval) → IsWithin i j → (j.lo ≤ℤ i.lo) × (i.hi ≤ℤ j.hi)
within_ends i j w = by_lt_z i.hi i.lo
    (λ crossed.
    let e : (i.lo ≡ interval_highest) × (i.hi ≡ interval_lowest) = i.span.empty crossed in
    (omega (arith, ints, e.0, least_end j), omega (arith, ints, e.1, greatest_end j)))
    (λ ordered.
    let low : (j.lo ≤ℤ i.lo) × (i.lo ≤ℤ j.hi) = allows_true j i.lo (w i.lo (true_allows i i.lo (omega (arith, ints)) ordered)) in
    let high : (j.lo ≤ℤ i.hi) × (i.hi ≤ℤ j.hi) = allows_true j i.hi (w i.hi (true_allows i i.hi ordered (omega (arith, ints)))) in
    (low.0, high.1))

pub ends_within : (i j : Interval) → j.lo ≤ℤ i.lo → i.hi ≤ℤ j.hi → IsWithin i j
ends_within i j p q v e = let at : (i.lo ≤ℤ v) × (v ≤ℤ i.hi) = allows_true i v e in true_allows j v (omega (arith, ints)) (omega (arith, ints))

-- ---- the least and the greatest number possible, of an interval that leaves none possible

none_least : (i : Interval) (o : Option ℤ) → IsEmpty i → IsLeast (allows i) interval_numbers interval_lowest o → o ≡ None
none_least i None none low = refl
none_least i (Some x) none (from, to, passes, least') = absurd (not_both _ passes (none x))

pub least_of_empty : (i : Interval) → IsEmpty i → least_of i ≡ None
unfolding least_of
least_of_empty i none = none_least i _ none (least_is (allows i) interval_numbers interval_lowest)

-- a number between two that are possible is possible
pub allows_between_allowed : (i : Interval) (lo v hi : ℤ) → allows i lo ≡ true → allows i hi ≡ true → lo ≤ℤ v → v ≤ℤ hi → allows i v ≡ true
allows_between_allowed i lo v hi low high from to =
    let at_lo : (i.lo ≤ℤ lo) × (lo ≤ℤ i.hi) = allows_true i lo low in
    let at_hi : (i.lo ≤ℤ hi) × (hi ≤ℤ i.hi) = allows_true i hi high in
    true_allows i v (omega (arith, ints)) (omega (arith, ints))

-- an interval that leaves some number possible leaves exactly the numbers from its least to its
-- greatest possible
pub allows_from_least : (i : Interval) (lo hi : ℤ) → IsLeastOf i lo → IsGreatestOf i hi → IsFromTo i lo hi
allows_from_least i lo hi (low, least') (high, most) v = same_test _ _
    (λ e. true_between lo v hi (least' v e) (most v e))
    (λ e. let at : (lo ≤ℤ v) × (v ≤ℤ hi) = between_true lo v hi e in allows_between_allowed i lo v hi low high at.0 at.1)

-- an interval leaves no number possible, or it has a least and a greatest one
pub empty_or_ends : (i : Interval) → IsEmpty i ⊎ ((lo : ℤ) × (hi : ℤ) × IsLeastOf i lo × IsGreatestOf i hi)
empty_or_ends i = by_lt_z i.hi i.lo
    (λ h. inl (λ v. is_false _ (crossed_none i v h)))
    (λ h.
    let some : IsEmpty i → ⊥ = λ none. not_both _ (true_allows i i.lo (omega (arith, ints)) h) (none i.lo) in
    inr (i.lo, i.hi, end_least i i.lo refl some, end_greatest i i.hi refl some))
