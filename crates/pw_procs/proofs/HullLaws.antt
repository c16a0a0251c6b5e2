-- What a hull leaves possible, and how hulls and truths grow with their inputs.
use Rattle.std.proofs.Common.{◌≡◌, ℤ, pos, ◌≤ℤ◌, ◌<ℤ◌, ◌+ℤ◌, ◌-ℤ◌, Bool, true, false, not, ◌&&◌, ◌||◌, ◌⊎◌, inl, inr, arith, refl, sym, ◌∙◌}
use Rattle.std.specs.Int.Signed.{le_z}
use Rattle.std.specs.Int.{int_max, int_min}
use Rattle.std.specs.Ordering.{int_eq}
use Rattle.std.proofs.lemmas.Int.{ints, clamps, by_lt_z}
use Rattle.pw_kinds.specs.declared.interval.Interval.{Interval}
use Rattle.pw_kinds.specs.Ranges.{interval_lowest, interval_highest, is_in_interval_range}
use Rattle.pw_kinds.specs.Ranges.{IsSpan}
use Rattle.pw_kinds.specs.Interval as interval
use Rattle.pw_kinds.proofs.Order.{true_le, le_true, le_false, both_true, true_both, is_false, not_both, between_true, true_between}
use Rattle.pw_kinds.proofs.Intervals.{allows_true, true_allows, allows_in_range, empty_none, closest_closest}
use Rattle.pw_info.specs.declared.kind.Kind.{Kind}
use Rattle.pw_info.specs.declared.kind.Kind.TheVariants as kinds
use Rattle.pw_info.specs.declared.info.Info.{Info}
use Rattle.pw_info.specs.Information.{allows, closest, Implies, IsContradiction}
use Rattle.pw_info.proofs.Informations.{allows-contradiction, closest_mono}
use Rattle.pw_procs.specs.Values.{NumberSet, IsSetOf, LiesWithin, IsHull, some, image_of_one, image_of_two, hull_of, truths_of, truth, is_true, bool}
use Rattle.pw_procs.proofs.Hulls.{image_one, image_two}
use Rattle.pw_procs.proofs.Possible.{some_mono, none_some, contradiction_none}

-- ---- the operations that give truths

abbrev pub at_most : ℤ → ℤ → ℤ
at_most a b = truth (le_z a b)

abbrev pub equality : ℤ → ℤ → ℤ
equality a b = truth (int_eq a b)

abbrev pub negation : ℤ → ℤ
negation a = truth (not (is_true a))

abbrev pub conjunction : ℤ → ℤ → ℤ
conjunction a b = truth (is_true a && is_true b)

abbrev pub disjunction : ℤ → ℤ → ℤ
disjunction a b = truth (is_true a || is_true b)

-- ---- hulls

not_false : (b : Bool) → (b ≡ false → ⊥) → b ≡ true
not_false true h = refl
not_false false h = absurd (h refl)

-- all numbers in range that pass lie between two ends
abbrev PassesBetween : (ℤ → Bool) → ℤ → ℤ → Type 0
PassesBetween p lo hi = (w : ℤ) → is_in_interval_range w ≡ true → p w ≡ true → (lo ≤ℤ w) × (w ≤ℤ hi)

-- the same where the ends are cut to the range
closest_cut : (p : ℤ → Bool) (lo hi low high : ℤ) → low ≡ int_max lo interval_lowest → high ≡ int_min hi interval_highest → PassesBetween p lo hi
    → (v : ℤ) → interval.allows (interval.closest p) v ≡ true → (low ≤ℤ v) × (v ≤ℤ high)
closest_cut p lo hi low high is_low is_high inside v e =
    let c : interval.IsClosest p (interval.closest p) = closest_closest p in
    by_lt_z high low
    (λ crossed. absurd (not_both _ (c.smallest interval.empty (λ w r h.
    let at : (lo ≤ℤ w) × (w ≤ℤ hi) = inside w r h in
    let range : (interval_lowest ≤ℤ w) × (w ≤ℤ interval_highest) = between_true interval_lowest w interval_highest r in
    absurd (omega (arith, ints, clamps))) v e) (empty_none v)))
    (λ ordered.
    let span : IsSpan low high = record { low = omega (arith, ints, clamps); high = omega (arith, ints, clamps); empty = λ h. absurd (omega (arith, ints)) } in
    let j : Interval = record { lo = low; hi = high; span = span } in
    allows_true j v (c.smallest j (λ w r h.
    let at : (lo ≤ℤ w) × (w ≤ℤ hi) = inside w r h in
    let range : (interval_lowest ≤ℤ w) × (w ≤ℤ interval_highest) = between_true interval_lowest w interval_highest r in
    true_allows j w (omega (arith, ints, clamps)) (omega (arith, ints, clamps))) v e))

-- the closest interval lies between any two ends between which all that passes lies
pub closest_between : (p : ℤ → Bool) (lo hi : ℤ) → PassesBetween p lo hi
    → (v : ℤ) → interval.allows (interval.closest p) v ≡ true → (lo ≤ℤ v) × (v ≤ℤ hi)
closest_between p lo hi inside v e =
    let at : (int_max lo interval_lowest ≤ℤ v) × (v ≤ℤ int_min hi interval_highest) = closest_cut p lo hi _ _ refl refl inside v e in
    (omega (arith, ints, clamps), omega (arith, ints, clamps))

-- the test that a hull is taken from: a number of the set is at or below, and one at or above
abbrev reaches : NumberSet → ℤ → Bool
reaches set v = set (λ z. le_z z v) && set (λ z. le_z v z)

module _ (numbers : ℤ → Type 0) (set : NumberSet) (are : IsSetOf numbers set) where
  -- exactly what lies between two numbers of the set passes it
  reaches_within : (v : ℤ) → reaches set v ≡ true → LiesWithin numbers v
  reaches_within v e =
      let both : (set (λ z. le_z z v) ≡ true) × (set (λ z. le_z v z) ≡ true) = true_both _ _ e in
      let (below, below_in, at_most) = are.known (λ z. le_z z v) both.0 in
      let (above, above_in, at_least) = are.known (λ z. le_z v z) both.1 in
      (below, above, below_in, above_in, le_true below v at_most, le_true v above at_least)

  within_reaches : (v : ℤ) → LiesWithin numbers v → reaches set v ≡ true
  within_reaches v (lo, hi, lo_in, hi_in, from, to) =
      both_true _ _ (are.found (λ z. le_z z v) lo lo_in (true_le lo v from)) (are.found (λ z. le_z v z) hi hi_in (true_le v hi to))

  -- if no number of the set is at or below a number, the hull is above it; and conversely
  none_below : (v : ℤ) → set (λ z. le_z z v) ≡ false → allows (hull_of set) v ≡ true → ⊥
  none_below v none e =
      let at : ((v +ℤ pos 1) ≤ℤ v) × (v ≤ℤ interval_highest) = closest_between (reaches set) (v +ℤ pos 1) interval_highest (λ w r h.
      let (lo, hi, lo_in, hi_in, from, to) = reaches_within w h in
      let over : v <ℤ lo = le_false lo v (is_false _ (λ k. not_both _ (are.found (λ z. le_z z v) lo lo_in k) none)) in
      let range : (interval_lowest ≤ℤ w) × (w ≤ℤ interval_highest) = between_true interval_lowest w interval_highest r in
      (omega (arith, ints), range.1)) v e in
      omega (arith, ints)

  none_above : (v : ℤ) → set (λ z. le_z v z) ≡ false → allows (hull_of set) v ≡ true → ⊥
  none_above v none e =
      let at : (interval_lowest ≤ℤ v) × (v ≤ℤ (v -ℤ pos 1)) = closest_between (reaches set) interval_lowest (v -ℤ pos 1) (λ w r h.
      let (lo, hi, lo_in, hi_in, from, to) = reaches_within w h in
      let under : hi <ℤ v = le_false v hi (is_false _ (λ k. not_both _ (are.found (λ z. le_z v z) hi hi_in k) none)) in
      let range : (interval_lowest ≤ℤ w) × (w ≤ℤ interval_highest) = between_true interval_lowest w interval_highest r in
      (range.0, omega (arith, ints))) v e in
      omega (arith, ints)

  -- what is possible in a hull lies between two numbers of the set
  hull_within : (v : ℤ) → allows (hull_of set) v ≡ true → LiesWithin numbers v
  hull_within v e = reaches_within v (both_true _ _
      (not_false _ (λ none. none_below v none e)) (not_false _ (λ none. none_above v none e)))

  -- the hull of a set is what its name says
  pub hull_is : IsHull numbers (hull_of set)
  hull_is = record {
    holds = λ v range within. (closest_closest (reaches set)).holds v range (within_reaches v within);
    known = λ v e.
        let range : (interval_lowest ≤ℤ v) × (v ≤ℤ interval_highest) = allows_in_range (interval.closest (reaches set)) v e in
        (true_between interval_lowest v interval_highest range.0 range.1, hull_within v e);
    smallest = λ lo hi inside v e.
        let (below, above, below_in, above_in, from, to) = hull_within v e in
        let at_below : (lo ≤ℤ below) × (below ≤ℤ hi) = inside below below_in in
        let at_above : (lo ≤ℤ above) × (above ≤ℤ hi) = inside above above_in in
        (omega (arith, ints), omega (arith, ints));
  }

-- ---- more that passes

-- if nothing passes the closest is the contradiction
pub closest_none : (k : Kind) (p : ℤ → Bool) → ((v : ℤ) → p v ≡ false) → IsContradiction (closest k p)
closest_none k p none v = is_false _ (λ e.
    not_both _ (closest_mono k p (λ w. false) (λ w r h. sym (none w) ∙ h) v e) (allows-contradiction k v))

-- what passes of one set passes of another
abbrev pub ArePartOf : NumberSet → NumberSet → Type 0
ArePartOf set others = (passes : ℤ → Bool) → set passes ≡ true → others passes ≡ true

-- a hull and truths grow with the set
pub hull_mono : (set others : NumberSet) → ArePartOf set others → Implies (hull_of set) (hull_of others)
hull_mono set others part = closest_mono kinds.Interval _ _ (λ v r e.
    let both : (set (λ z. le_z z v) ≡ true) × (set (λ z. le_z v z) ≡ true) = true_both _ _ e in
    both_true _ _ (part _ both.0) (part _ both.1))

pub truths_mono : (set others : NumberSet) → ArePartOf set others → Implies (truths_of set) (truths_of others)
truths_mono set others part = closest_mono bool _ _ (λ v r e. part (int_eq v) e)

-- all that an operation gives grows with the inputs
pub one_mono : (op : ℤ → ℤ) (y x : Info) → Implies y x → ArePartOf (image_of_one op y) (image_of_one op x)
one_mono op y x implied passes = some_mono y x (λ a. passes (op a)) (λ a. passes (op a)) implied (λ a e. e)

-- more of two values pass a test if more are possible
pub pair_mono : (y z x w : Info) (test : ℤ → ℤ → Bool) → Implies y x → Implies z w
    → some y (λ a. some z (λ b. test a b)) ≡ true → some x (λ a. some w (λ b. test a b)) ≡ true
pair_mono y z x w test first_implied second_implied = some_mono y x (λ a. some z (λ b. test a b)) (λ a. some w (λ b. test a b)) first_implied
    (λ a. some_mono z w (λ b. test a b) (λ b. test a b) second_implied (λ b e. e))

pub two_mono : (op : ℤ → ℤ → ℤ) (y z x w : Info) → Implies y x → Implies z w → ArePartOf (image_of_two op y z) (image_of_two op x w)
two_mono op y z x w first_implied second_implied passes = pair_mono y z x w (λ a b. passes (op a b)) first_implied second_implied

-- ---- nothing that passes

-- a set has no number
abbrev pub IsNone : NumberSet → Type 0
IsNone set = (passes : ℤ → Bool) → set passes ≡ false

-- the hull and the truths of a set with no number are contradictory
pub hull_none : (set : NumberSet) → IsNone set → IsContradiction (hull_of set)
hull_none set none = closest_none kinds.Interval _ (λ v. is_false _ (λ e. not_both _ (true_both _ _ e).0 (none (λ z. le_z z v))))

pub truths_none : (set : NumberSet) → IsNone set → IsContradiction (truths_of set)
truths_none set none = closest_none bool _ (λ v. none (int_eq v))

-- an operation gives nothing on a contradiction
pub one_none : (op : ℤ → ℤ) (x : Info) → IsContradiction x → IsNone (image_of_one op x)
one_none op x none passes = contradiction_none x none (λ a. passes (op a))

-- no two values pass a test if either is of a contradiction
pub pair_none : (x y : Info) (test : ℤ → ℤ → Bool) → IsContradiction x ⊎ IsContradiction y → some x (λ a. some y (λ b. test a b)) ≡ false
pair_none x y test (inl none) = contradiction_none x none (λ a. some y (λ b. test a b))
pair_none x y test (inr none) = none_some x (λ a. some y (λ b. test a b)) (λ a here e. not_both _ e (contradiction_none y none (λ b. test a b)))

pub two_none : (op : ℤ → ℤ → ℤ) (x y : Info) → IsContradiction x ⊎ IsContradiction y → IsNone (image_of_two op x y)
two_none op x y either passes = pair_none x y (λ a b. passes (op a b)) either

-- ---- solutions

-- a number of a set lies within it
itself_within : (numbers : ℤ → Type 0) (z : ℤ) → numbers z → LiesWithin numbers z
itself_within numbers z here = (z, z, here, here, omega (arith, ints), omega (arith, ints))

-- what an operation gives on possible values is possible if it is in range
pub one_holds : (op : ℤ → ℤ) (x : Info) (a z : ℤ) → z ≡ op a → is_in_interval_range z ≡ true → allows x a ≡ true → allows (hull_of (image_of_one op x)) z ≡ true
one_holds op x a z is range possible = (hull_is _ _ (image_one op x)).holds z range (itself_within _ z (a, possible, is))

pub two_holds : (op : ℤ → ℤ → ℤ) (x y : Info) (a b z : ℤ) → z ≡ op a b → is_in_interval_range z ≡ true → allows x a ≡ true → allows y b ≡ true
    → allows (hull_of (image_of_two op x y)) z ≡ true
two_holds op x y a b z is range a_possible b_possible =
    (hull_is _ _ (image_two op x y)).holds z range (itself_within _ z (a, b, a_possible, b_possible, is))
