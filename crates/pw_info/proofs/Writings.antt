-- What is written for intervals and for exact numbers, and what it spells.
use Rattle.std.proofs.Common.{◌≡◌, ℤ, ◌≤ℤ◌, List, ◌++◌, ℕ, Bool, true, false, ◌&&◌, codes, Option, Some, None, inl, inr, refl, sym, ◌∙◌, subst, ap, arith, if◌then◌else◌}
use Rattle.std.proofs.lemmas.Bool.{cases_Bool}
use Rattle.std.proofs.lemmas.Bool.Decides.{Decides-int_eq}
use Rattle.std.proofs.lemmas.Int.{ints}
use Rattle.std.specs.Fmt.{signed_decimal}
use Rattle.std.specs.Ordering.{int_eq}
use Rattle.pw_kinds.specs.declared.exact.Exact.{Exact}
use Rattle.pw_kinds.specs.declared.exact.Exact.TheVariants.{Any, One, Empty}
use Rattle.pw_kinds.specs.declared.interval.Interval.{Interval}
use Rattle.pw_kinds.specs.Ranges.{interval_lowest, interval_highest, IsInIntervalRange, IsInExactRange}
use Rattle.pw_kinds.specs.Exact.{IsAny, IsOne}
use Rattle.pw_kinds.specs.Interval.{greatest_of, IsEmpty, IsWhole, IsLeastOf, IsGreatestOf}
use Rattle.pw_kinds.proofs.Order.{true_both, between_true}
use Rattle.pw_kinds.proofs.Exacts as exacts
use Rattle.pw_kinds.proofs.Intervals as intervals
use Rattle.pw_info.specs.declared.kind.Kind.TheVariants as kinds
use Rattle.pw_info.specs.declared.info.Info.TheVariants as info
use Rattle.pw_info.specs.Number.{SpellsRange, text_of_range}
use Rattle.pw_info.specs.SetNames.{SetNames}
use Rattle.pw_info.specs.Spelling.{SpellsInfo}
use Rattle.pw_info.specs.Text.{text_of_ends, text_of_exact, text_of_interval}
use Rattle.pw_info.proofs.Dots.{text_spells}
use Rattle.pw_info.proofs.Numbers.{signed_decimal_spells}

-- ---- the text of an interval

-- by its least and its greatest number
text_from_ends : (part : Interval) (lo hi : ℤ) → IsLeastOf part lo → IsGreatestOf part hi → text_of_interval part ≡ text_of_ends (Some lo) (Some hi)
text_from_ends part lo hi low high =
    ap (λ (o : Option ℤ). text_of_ends o (greatest_of part)) (intervals.least_of_is part lo low)
    ∙ ap (λ (o : Option ℤ). text_of_ends (Some lo) o) (intervals.greatest_of_is part hi high)

-- an interval with no number is written as the contradiction
pub text_of_empty : (part : Interval) → IsEmpty part → text_of_interval part ≡ codes "contradiction"
text_of_empty part none = ap (λ (o : Option ℤ). text_of_ends o (greatest_of part)) (intervals.least_of_empty part none)

-- the ends of an interval with every number are those of the whole range
whole_ends : (part : Interval) → IsWhole part → IsLeastOf part interval_lowest × IsGreatestOf part interval_highest
whole_ends part every =
    ((every interval_lowest refl, λ v e. (intervals.allows_in_range part v e).0), (every interval_highest refl, λ v e. (intervals.allows_in_range part v e).1))

-- an interval with the ends of the whole range has every number
ends_whole : (part : Interval) (lo hi : ℤ) → IsLeastOf part lo → IsGreatestOf part hi → (int_eq lo interval_lowest && int_eq hi interval_highest) ≡ true → IsWhole part
ends_whole part lo hi (low, least) (high, most) ends v e =
    let (at_first, at_last) = true_both (int_eq lo interval_lowest) (int_eq hi interval_highest) ends in
    let same_lo : lo ≡ interval_lowest = (Decides-int_eq lo interval_lowest).0 at_first in
    let same_hi : hi ≡ interval_highest = (Decides-int_eq hi interval_highest).0 at_last in
    let range : (interval_lowest ≤ℤ v) × (v ≤ℤ interval_highest) = between_true interval_lowest v interval_highest e in
    intervals.allows_between_allowed part lo v hi low high
    (subst (λ (n : ℤ). n ≤ℤ v) (sym same_lo) range.0) (subst (λ (n : ℤ). v ≤ℤ n) (sym same_hi) range.1)

-- an interval with every number is written as nothing
pub text_of_whole : (part : Interval) → IsWhole part → text_of_interval part ≡ codes "nothing"
text_of_whole part every = let (low, high) = whole_ends part every in text_from_ends part interval_lowest interval_highest low high

-- an interval that lacks a number is written as the range of its ends
text_of_part : (part : Interval) (lo hi : ℤ) → (int_eq lo interval_lowest && int_eq hi interval_highest) ≡ false → IsLeastOf part lo → IsGreatestOf part hi
    → text_of_interval part ≡ text_of_range lo hi
text_of_part part lo hi apart low high =
    text_from_ends part lo hi low high ∙ ap (λ (b : Bool). if b then codes "nothing" else text_of_range lo hi) apart

-- the same with the ends as the code passes them on
pub text_of_some : (part : Interval) (lo hi from to : ℤ) → from ≡ lo → to ≡ hi → (IsWhole part → false ≡ true)
    → IsLeastOf part lo → IsGreatestOf part hi → text_of_interval part ≡ text_of_range from to
text_of_some part lo hi from to same_lo same_hi lacks low high = elim (cases_Bool (int_eq lo interval_lowest && int_eq hi interval_highest)) [
  | inl whole ↦ absurd (let differ = lacks (ends_whole part lo hi low high whole) in cc)
  | inr apart ↦
      text_of_part part lo hi apart low high
      ∙ ap (λ (n : ℤ). text_of_range n hi) (sym same_lo) ∙ ap (λ (n : ℤ). text_of_range from n) (sym same_hi)
]

-- the text of two numbers that are equal
pub text_of_same : (lo hi from : ℤ) → from ≡ lo → lo ≡ hi → text_of_range lo hi ≡ signed_decimal from
text_of_same lo hi from same equal =
    ap (λ (b : Bool). if b then signed_decimal lo else signed_decimal lo ++ (codes ".." ++ signed_decimal hi)) ((Decides-int_eq lo hi).1 equal)
    ∙ ap signed_decimal (sym same)

-- the text of two numbers that differ
pub text_of_two : (lo hi from to : ℤ) → from ≡ lo → to ≡ hi → (lo ≡ hi → ⊥)
    → text_of_range lo hi ≡ signed_decimal from ++ (codes ".." ++ signed_decimal to)
text_of_two lo hi from to same_lo same_hi apart = elim (cases_Bool (int_eq lo hi)) [
  | inl equal ↦ absurd (apart ((Decides-int_eq lo hi).0 equal))
  | inr differ ↦
      ap (λ (b : Bool). if b then signed_decimal lo else signed_decimal lo ++ (codes ".." ++ signed_decimal hi)) differ
      ∙ ap (λ (n : ℤ). signed_decimal n ++ (codes ".." ++ signed_decimal hi)) (sym same_lo)
      ∙ ap (λ (n : ℤ). signed_decimal from ++ (codes ".." ++ signed_decimal n)) (sym same_hi)
]

-- ---- the text of an exact number

-- any number is written as nothing
pub text_of_any : (part : Exact) → IsAny part → text_of_exact part ≡ codes "nothing"
text_of_any part any = ap text_of_exact (exacts.is_any_is part any)

-- one number is written as that number
pub text_of_one : (part : Exact) (n from : ℤ) → from ≡ n → IsOne part n → text_of_exact part ≡ signed_decimal from
text_of_one Any n from same one = absurd (exacts.any_not_one n one)
text_of_one (One number) n from same one = ap signed_decimal (sym (same ∙ exacts.eq_true n number.value (one n ∙ exacts.self_eq n)))
text_of_one Empty n from same one = absurd (let differ : false ≡ true = one n ∙ exacts.self_eq n in cc)

-- what is neither any number nor one is written as the contradiction
pub text_of_none : (part : Exact) → (IsAny part → false ≡ true) → ((n : ℤ) → IsOne part n → None ≡ Some n)
    → text_of_exact part ≡ codes "contradiction"
text_of_none Any any one = absurd (let differ = any (λ v e. e) in cc)
text_of_none (One number) any one = absurd (let differ = one number.value (λ v. refl) in cc)
text_of_none Empty any one = refl

-- ---- what is written spells what it was written for

-- the text of an interval with a least and a greatest number
ends_spelled : (sets : SetNames) (part : Interval) (lo hi : ℤ) → IsLeastOf part lo → IsGreatestOf part hi
    → SpellsInfo sets (text_of_interval part) kinds.Interval (info.Interval part)
ends_spelled sets part lo hi low high = elim (cases_Bool (int_eq lo interval_lowest && int_eq hi interval_highest)) [
  | inl whole ↦
      let every : IsWhole part = ends_whole part lo hi low high whole in
      (refl, inl (text_of_whole part every, every))
  | inr apart ↦
      let at_lo : IsInIntervalRange lo = intervals.allows_in_range part lo low.0 in
      let at_hi : IsInIntervalRange hi = intervals.allows_in_range part hi high.0 in
      let order : lo ≤ℤ hi = low.1 hi high.0 in
      let range : SpellsRange (text_of_range lo hi) lo hi =
      text_spells lo hi order (omega (arith, ints), omega (arith, ints)) (omega (arith, ints), omega (arith, ints)) in
      let spelled = subst (λ (w : List ℕ). SpellsRange w lo hi) (sym (text_of_part part lo hi apart low high)) range in
      (refl, inr (inr (lo, hi, spelled, at_lo, at_hi, intervals.allows_from_least part lo hi low high)))
]

-- the text of an interval
pub interval_spelled : (sets : SetNames) (part : Interval) → SpellsInfo sets (text_of_interval part) kinds.Interval (info.Interval part)
interval_spelled sets part = elim (intervals.empty_or_ends part) [
  | inl none ↦ (refl, inr (inl (text_of_empty part none, none)))
  | inr (lo, hi, low, high) ↦ ends_spelled sets part lo hi low high
]

-- the text of an exact number
pub exact_spelled : (sets : SetNames) (part : Exact) → SpellsInfo sets (text_of_exact part) kinds.Exact (info.Exact part)
exact_spelled sets Any = (refl, inl (refl, λ v e. e))
exact_spelled sets (One number) =
    let within : IsInExactRange number.value = (number.at_least, number.at_most) in
    (refl, inr (inr (number.value, signed_decimal_spells number.value within, within, λ v. refl)))
exact_spelled sets Empty = (refl, inr (inl (refl, λ v. refl)))
