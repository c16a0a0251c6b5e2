-- Exact numbers and the intervals of one number.
use Rattle.std.proofs.Common.{◌≡◌, ◌↔◌, ℤ, ◌≤ℤ◌, Bool, true, false, ◌&&◌, Option, Some, None, arith, refl, sym, ◌∙◌, ap, subst}
use Rattle.std.specs.Int.Signed.{le_z}
use Rattle.std.specs.Option.{IsSome, IfSome, unwrap_or}
use Rattle.std.proofs.lemmas.Int.{ints}
use Rattle.pw_kinds.specs.declared.interval.Interval.{Interval}
use Rattle.pw_kinds.specs.declared.exact.Exact.{Exact}
use Rattle.pw_kinds.specs.declared.exact.Exact.TheVariants.{Any, One, Empty}
use Rattle.pw_kinds.specs.Ranges.{interval_lowest, interval_highest, is_in_interval_range, IsInIntervalRange, IsInExactRange}
use Rattle.pw_kinds.specs.Interval as interval
use Rattle.pw_kinds.specs.Exact as exact
use Rattle.pw_kinds.proofs.Order.{both_true, same_test, is_false, between_true, true_between, true_le}
use Rattle.pw_kinds.proofs.Intervals as intervals
use Rattle.pw_kinds.proofs.Exacts as exacts
use Rattle.pw_info.specs.declared.info.Info.TheVariants as info
use Rattle.pw_procs.specs.Values.{some}
use Rattle.pw_procs.specs.Meaning.{point_of}
use Rattle.pw_procs.proofs.Possible.{some_true, true_some, contradiction_none}

-- ---- the interval of an exact number

-- whether a number lies in the hull of the possible numbers
is_in_hull : Exact → ℤ → Bool
is_in_hull e v = some (info.Exact e) (λ z. le_z z v) && some (info.Exact e) (λ z. le_z v z)

-- an interval that leaves possible exactly what lies in the hull is the interval of the exact
-- number
point_is : (e : Exact) (i : Interval) → ((v : ℤ) → interval_lowest ≤ℤ v → v ≤ℤ interval_highest → interval.allows i v ≡ is_in_hull e v) → info.Interval i ≡ point_of (info.Exact e)
unfolding is_in_hull
point_is e i same = ap info.Interval (intervals.closest_is (λ v. some (info.Exact e) (λ z. le_z z v) && some (info.Exact e) (λ z. le_z v z)) i same)

-- one possible number passes where the test lets it
some_one : (e : Exact) (n : ℤ) (p : ℤ → Bool) → exact.IsOne e n → some (info.Exact e) p ≡ p n
some_one e n p one = same_test _ _
    (λ h. let (v, here, passes) = some_true (info.Exact e) p h in
    subst (λ (x : ℤ). p x ≡ true) (exacts.eq_true v n (sym (one v) ∙ here)) passes)
    (λ h. true_some (info.Exact e) p n (one n ∙ exacts.self_eq n) h)

-- the hull of one number holds it alone
hull_one : (e : Exact) (n v : ℤ) → exact.IsOne e n → is_in_hull e v ≡ (le_z n v && le_z v n)
unfolding is_in_hull
hull_one e n v one = rw (some_one e n (λ z. le_z z v) one, some_one e n (λ z. le_z v z) one) refl

-- every number in range lies in the hull of any
hull_any : (e : Exact) (v : ℤ) → exact.IsAny e → interval_lowest ≤ℤ v → v ≤ℤ interval_highest → is_in_hull e v ≡ true
unfolding is_in_hull
hull_any e v every low high =
    let here : exact.allows e v ≡ true = every v (exacts.true_number v (omega (arith, ints)) (omega (arith, ints))) in
    both_true _ _
    (true_some (info.Exact e) (λ z. le_z z v) v here (true_le v v (omega (arith, ints))))
    (true_some (info.Exact e) (λ z. le_z v z) v here (true_le v v (omega (arith, ints))))

-- no number lies in the hull of none
hull_none : (e : Exact) (v : ℤ) → exact.IsEmpty e → is_in_hull e v ≡ false
unfolding is_in_hull
hull_none e v none = rw (contradiction_none (info.Exact e) none (λ z. le_z z v)) refl

-- any gives the whole interval
pub point_any : (e : Exact) (i : Interval) → exact.IsAny e → ((v : ℤ) → interval.allows i v ≡ is_in_interval_range v) → info.Interval i ≡ point_of (info.Exact e)
point_any e i every whole = point_is e i (λ v low high.
    whole v ∙ true_between interval_lowest v interval_highest low high ∙ sym (hull_any e v every low high))

-- one number gives the interval from it to it
one_point : (e : Exact) (i : Interval) (n : ℤ) → exact.IsOne e n → interval.IsFromTo i n n → info.Interval i ≡ point_of (info.Exact e)
one_point e i n one from_to = point_is e i (λ v low high. from_to v ∙ sym (hull_one e n v one))

-- one number out of range gives the empty interval
outside_point : (e : Exact) (i : Interval) (n : ℤ) → exact.IsOne e n → (IsInIntervalRange n → ⊥) → interval.IsEmpty i → info.Interval i ≡ point_of (info.Exact e)
outside_point e i n one outside none = point_is e i (λ v low high.
    none v ∙ sym (hull_one e n v one ∙ is_false _ (λ h.
    let at : (n ≤ℤ v) × (v ≤ℤ n) = between_true n v n h in
    outside (omega (arith, ints), omega (arith, ints)))))

-- one number gives the interval of it alone if there is one, otherwise the empty one
pub point_one : (e : Exact) (n : ℤ) (made : Option Interval) (otherwise : Interval) → exact.IsOne e n → (IsInIntervalRange n → IsSome made) → IfSome made (λ i. interval.IsFromTo i n n) → interval.IsEmpty otherwise
    → info.Interval (unwrap_or made otherwise) ≡ point_of (info.Exact e)
point_one e n (Some i) otherwise one in_range from_to none = one_point e i n one from_to
point_one e n None otherwise one in_range from_to none = outside_point e otherwise n one (λ range. let some : IsSome {T = Interval} None = in_range range in absurd (cc)) none

-- no number gives the empty interval
pub point_none : (e : Exact) (i : Interval) → exact.IsEmpty e → interval.IsEmpty i → info.Interval i ≡ point_of (info.Exact e)
point_none e i nowhere none = point_is e i (λ v low high. none v ∙ sym (hull_none e v nowhere))

-- what is neither any nor one number is none
neither_empty : (e : Exact) → (exact.IsAny e → ⊥) → ((n : ℤ) → exact.IsOne e n → ⊥) → exact.IsEmpty e
neither_empty Any not_any not_one = absurd (not_any (λ v h. h))
neither_empty (One m) not_any not_one = absurd (not_one m.value (λ v. refl))
neither_empty Empty not_any not_one = λ v. refl

-- what is not any, and has no number, is none
pub numberless_empty : (e : Exact) → (exact.IsAny e → ⊥) → ((n : ℤ) → (None ≡ Some n) ↔ exact.IsOne e n) → exact.IsEmpty e
numberless_empty e not_any number = neither_empty e not_any (λ n one. let some : None ≡ Some n = (number n).1 one in absurd (cc))

-- ---- the exact number of an interval

-- an interval of no number gives none
pub fixed_none : (i : Interval) → interval.IsEmpty i → exact.empty ≡ exact.closest (interval.allows i)
fixed_none i none = sym (exacts.closest_none (interval.allows i) (λ v low high. none v))

-- an end of an interval is a number in range
end_in_range : (i : Interval) (n : ℤ) → interval.allows i n ≡ true → IsInExactRange n
end_in_range i n here = let range : (interval_lowest ≤ℤ n) × (n ≤ℤ interval_highest) = intervals.allows_in_range i n here in (omega (arith, ints), omega (arith, ints))

-- an interval of more numbers than one gives any
pub fixed_any : (i : Interval) (lo hi : ℤ) → interval.IsLeastOf i lo → interval.IsGreatestOf i hi → (lo ≡ hi → ⊥) → exact.any ≡ exact.closest (interval.allows i)
fixed_any i lo hi least greatest apart =
    let low : IsInExactRange lo = end_in_range i lo least.0 in
    let high : IsInExactRange hi = end_in_range i hi greatest.0 in
    sym (exacts.closest_two (interval.allows i) lo hi
    (exacts.true_number lo low.0 low.1) (exacts.true_number hi high.0 high.1)
    least.0 greatest.0 (is_false _ (λ h. apart (exacts.eq_true lo hi h))))

-- an interval of one number gives it
one_fixed : (i : Interval) (e : Exact) (n : ℤ) → interval.IsLeastOf i n → interval.IsGreatestOf i n → exact.IsOne e n → e ≡ exact.closest (interval.allows i)
one_fixed i e n least greatest one = exacts.closest_is (interval.allows i) e (λ v r. one v ∙ same_test _ _
    (λ h. subst (λ (x : ℤ). interval.allows i x ≡ true) (sym (exacts.eq_true v n h)) least.0)
    (λ h. let low : n ≤ℤ v = least.1 v h in let high : v ≤ℤ n = greatest.1 v h in
    exacts.true_eq v n (omega (arith, ints))))

-- an interval of one number gives what is made of the number, which is in range
pub fixed_one : (i : Interval) (n : ℤ) (made : Option Exact) (otherwise : Exact) → interval.IsLeastOf i n → interval.IsGreatestOf i n → (IsInExactRange n → IsSome made) → IfSome made (λ e. exact.IsOne e n)
    → unwrap_or made otherwise ≡ exact.closest (interval.allows i)
fixed_one i n (Some e) otherwise least greatest in_range one = one_fixed i e n least greatest one
fixed_one i n None otherwise least greatest in_range one = let some : IsSome {T = Exact} None = in_range (end_in_range i n least.0) in absurd (cc)
