-- Sets of truths, and the pairs of possible values that give them.
use Rattle.std.proofs.Common.{◌≡◌, ℕ, zero, suc, ℤ, pos, negsuc, ◌<◌, ◌≤ℤ◌, ◌<ℤ◌, Bool, true, false, not, ◌&&◌, ◌||◌, IsTrue, ◌↔◌, ◌⊎◌, inl, inr, Option, Some, arith, refl, sym, ◌∙◌, ap, subst, eqb, w64, of_z}
use Rattle.std.specs.Ordering.{int_eq}
use Rattle.std.specs.Int.Signed.{le_z, lt_z}
use Rattle.std.proofs.lemmas.Int.{ints}
use Rattle.std.proofs.lemmas.Bool.{cases_Bool, eqb-true, eq-eqb, not-true, or_cases, or_left, or_right}
use Rattle.pw_kinds.specs.Ranges.{exact_lowest, exact_highest}
use Rattle.pw_kinds.specs.declared.interval.Interval.{Interval}
use Rattle.pw_kinds.specs.Interval as interval
use Rattle.pw_kinds.specs.declared.members.Members.{Members}
use Rattle.pw_kinds.specs.Members as members
use Rattle.pw_kinds.specs.Members.{size_of}
use Rattle.pw_kinds.proofs.MemberSets as sets
use Rattle.pw_kinds.proofs.MemberSets.{allows_below}
use Rattle.pw_kinds.proofs.Exacts.{self_eq, eq_true, true_eq}
use Rattle.pw_kinds.proofs.Order.{le_true, true_le, le_false, false_le, both_true, true_both, same_test, is_false, not_both}
use Rattle.pw_info.specs.declared.info.Info.{Info}
use Rattle.pw_info.specs.declared.info.Info.TheVariants as info
use Rattle.pw_info.specs.Information.{allows, IsContradiction}
use Rattle.pw_procs.specs.Values.{some, is_possible, is_true, NumberSet, truth, truths_of, image_of_one, image_of_two}
use Rattle.pw_procs.proofs.Possible.{allows_in_range, some_true, true_some, some_same, none_some, contradiction_none, impossible_contradiction}
use Rattle.pw_procs.proofs.OnlyValues.{IsOnly}

-- ---- tests and their opposites

-- the opposite of a test passes if it fails
to_not : (b : Bool) → b ≡ false → not b ≡ true
to_not b e = ap not e

-- the opposite of the opposite, of `and` and of `or`
not_not : (b : Bool) → not (not b) ≡ b
not_not true = refl
not_not false = refl

not_both_tests : (a b : Bool) → not (a && b) ≡ (not a || not b)
not_both_tests true b = refl
not_both_tests false b = refl

not_either_test : (a b : Bool) → not (a || b) ≡ (not a && not b)
not_either_test true b = refl
not_either_test false b = refl

-- `or` passes if one of two tests does
either_true : (a b : Bool) → (a ≡ true) ⊎ (b ≡ true) → (a || b) ≡ true
either_true a b (inl e) = or_left a b e
either_true a b (inr e) = or_right a b e

-- what `or` and `and` say about two tests if the first is known
pub either_first : (a b : Bool) → a ≡ true → (a || b) ≡ true
either_first true b e = refl
either_first false b e = absurd (cc)

pub either_second : (a b : Bool) → a ≡ false → (a || b) ≡ b
either_second true b e = absurd (cc)
either_second false b e = refl

pub both_first : (a b : Bool) → a ≡ false → (a && b) ≡ false
both_first true b e = absurd (cc)
both_first false b e = refl

pub both_second : (a b : Bool) → a ≡ true → (a && b) ≡ b
both_second true b e = refl
both_second false b e = absurd (cc)

-- ---- sets of truths

-- truths that agree with a set at `false` and at `true` do at each place
each_truth : (set : NumberSet) (part : Members) → members.allows part (pos 0) ≡ set (int_eq (pos 0)) → members.allows part (pos 1) ≡ set (int_eq (pos 1))
    → (k : ℕ) → k < 2 → members.allows part (pos k) ≡ set (int_eq (pos k))
each_truth set part at_false at_true zero h = at_false
each_truth set part at_false at_true (suc zero) h = at_true
each_truth set part at_false at_true (suc (suc k)) h = absurd (omega arith)

-- truths that allow `false` and `true` exactly if a set has these are those of the set
pub truths_are : (set : NumberSet) (part : Members) → members.size_of part ≡ 2
    → members.allows part (pos 0) ≡ set (int_eq (pos 0)) → members.allows part (pos 1) ≡ set (int_eq (pos 1)) → info.Members 0 part ≡ truths_of set
truths_are set part size at_false at_true =
    ap (info.Members 0) (sets.closest_is 2 (λ v. set (int_eq v)) part size (each_truth set part at_false at_true))

-- what adding each truth, or not, leaves at its own place
only_first : (f t : Bool) → ((false || (f && int_eq (pos 0) (pos 0))) || (t && int_eq (pos 1) (pos 0))) ≡ f
only_first true true = refl
only_first true false = refl
only_first false true = refl
only_first false false = refl

only_second : (f t : Bool) → ((false || (f && int_eq (pos 0) (pos 1))) || (t && int_eq (pos 1) (pos 1))) ≡ t
only_second true true = refl
only_second true false = refl
only_second false true = refl
only_second false false = refl

-- none, then `false` if it may be, then `true` if it may be
pub truths_from : (f t : Bool) (none one part : Members) → members.IsEmpty none
    → ((v : ℤ) → members.allows one v ≡ (members.allows none v || (f && int_eq (pos 0) v)))
    → ((v : ℤ) → members.allows part v ≡ (members.allows one v || (t && int_eq (pos 1) v)))
    → members.size_of part ≡ 2 → (set : NumberSet) → set (int_eq (pos 0)) ≡ f → set (int_eq (pos 1)) ≡ t → info.Members 0 part ≡ truths_of set
truths_from f t none one part empty first second size set at_false at_true =
    let possible : (v : ℤ) → members.allows part v ≡ ((false || (f && int_eq (pos 0) v)) || (t && int_eq (pos 1) v)) =
    λ v. second v ∙ ap (λ b. b || (t && int_eq (pos 1) v)) (first v ∙ ap (λ b. b || (f && int_eq (pos 0) v)) (empty v)) in
    truths_are set part size (possible (pos 0) ∙ only_first f t ∙ sym at_false) (possible (pos 1) ∙ only_second f t ∙ sym at_true)

-- ---- what passes among pairs of possible values

-- whether some pair passes
abbrev pub some_pair : Info → Info → (ℤ → ℤ → Bool) → Bool
some_pair x y passes = some x (λ a. some y (passes a))

-- if some pair passes there is one, and one that passes is some
some_pair_true : (x y : Info) (passes : ℤ → ℤ → Bool) → some_pair x y passes ≡ true → (a : ℤ) × (b : ℤ) × (allows x a ≡ true) × (allows y b ≡ true) × (passes a b ≡ true)
some_pair_true x y passes e =
    let (a, at_a, rest) = some_true x (λ a. some y (passes a)) e in
    let (b, at_b, passed) = some_true y (passes a) rest in
    (a, b, at_a, at_b, passed)

true_some_pair : (x y : Info) (passes : ℤ → ℤ → Bool) (a b : ℤ) → allows x a ≡ true → allows y b ≡ true → passes a b ≡ true → some_pair x y passes ≡ true
true_some_pair x y passes a b at_a at_b passed = true_some x (λ a. some y (passes a)) a at_a (true_some y (passes a) b at_b passed)

-- ---- what an operation gives that tells a truth

-- a truth is the place of `false` if its test fails, and that of `true` if it passes
false_is : (b : Bool) → int_eq (pos 0) (truth b) ≡ not b
false_is true = refl
false_is false = refl

true_is : (b : Bool) → int_eq (pos 1) (truth b) ≡ b
true_is true = refl
true_is false = refl

-- `false` is given if some pair fails, `true` if some pair passes
pub image_false : (test : ℤ → ℤ → Bool) (x y : Info) → image_of_two (λ a b. truth (test a b)) x y (int_eq (pos 0)) ≡ some_pair x y (λ a b. not (test a b))
image_false test x y = some_same x _ _ (λ a at_a. some_same y _ _ (λ b at_b. false_is (test a b)))

pub image_true : (test : ℤ → ℤ → Bool) (x y : Info) → image_of_two (λ a b. truth (test a b)) x y (int_eq (pos 1)) ≡ some_pair x y test
image_true test x y = some_same x _ _ (λ a at_a. some_same y _ _ (λ b at_b. true_is (test a b)))

-- if one of two informations is contradictory nothing is given
pub no_image : (operation : ℤ → ℤ → ℤ) (x y : Info) → IsContradiction x ⊎ IsContradiction y → (passes : ℤ → Bool) → image_of_two operation x y passes ≡ false
no_image operation x y (inl none) passes = contradiction_none x none (λ a. some y (λ b. passes (operation a b)))
no_image operation x y (inr none) passes =
    none_some x (λ a. some y (λ b. passes (operation a b))) (λ a at_a e. not_both _ e (contradiction_none y none (λ b. passes (operation a b))))

-- what is not a contradiction leaves some value possible
pub possible : (x : Info) → (IsContradiction x → ⊥) → is_possible x ≡ true
possible x known = elim (cases_Bool (is_possible x)) [
  | inl e ↦ e
  | inr none ↦ absurd (known (impossible_contradiction x none))
]

-- ---- order

-- the test of strict order, and the fact that it tests
lt_true : (a b : ℤ) → lt_z a b ≡ true → a <ℤ b
lt_true a b e = grind (arith, ints)

pub true_lt : (a b : ℤ) → a <ℤ b → lt_z a b ≡ true
true_lt a b h = grind (arith, ints)

-- a number of one interval is above one of the other exactly if the greatest is above the least
pub some_above : (x y : Interval) (greatest least hi lo : ℤ) → interval.IsGreatestOf x greatest → interval.IsLeastOf y least → hi ≡ greatest → lo ≡ least
    → image_of_two (λ a b. truth (le_z a b)) (info.Interval x) (info.Interval y) (int_eq (pos 0)) ≡ lt_z lo hi
some_above x y greatest least hi lo (high, most) (low, fewest) same_hi same_lo = image_false le_z (info.Interval x) (info.Interval y) ∙ same_test _ _
    (λ e.
    let (a, b, at_a, at_b, passed) = some_pair_true (info.Interval x) (info.Interval y) (λ a b. not (le_z a b)) e in
    let apart : b <ℤ a = le_false a b (not-true _ passed) in
    let below : a ≤ℤ greatest = most a at_a in
    let from : least ≤ℤ b = fewest b at_b in
    true_lt lo hi (omega (arith, ints)))
    (λ e.
    let apart : lo <ℤ hi = lt_true lo hi e in
    true_some_pair (info.Interval x) (info.Interval y) (λ a b. not (le_z a b)) greatest least high low (to_not _ (false_le greatest least (omega (arith, ints)))))

-- a number of one interval is at most one of the other exactly if the least is at most the greatest
pub some_at_most : (x y : Interval) (least greatest lo hi : ℤ) → interval.IsLeastOf x least → interval.IsGreatestOf y greatest → lo ≡ least → hi ≡ greatest
    → image_of_two (λ a b. truth (le_z a b)) (info.Interval x) (info.Interval y) (int_eq (pos 1)) ≡ le_z lo hi
some_at_most x y least greatest lo hi (low, fewest) (high, most) same_lo same_hi = image_true le_z (info.Interval x) (info.Interval y) ∙ same_test _ _
    (λ e.
    let (a, b, at_a, at_b, passed) = some_pair_true (info.Interval x) (info.Interval y) le_z e in
    let up : a ≤ℤ b = le_true a b passed in
    let from : least ≤ℤ a = fewest a at_a in
    let to : b ≤ℤ greatest = most b at_b in
    true_le lo hi (omega (arith, ints)))
    (λ e.
    let up : lo ≤ℤ hi = le_true lo hi e in
    true_some_pair (info.Interval x) (info.Interval y) le_z least greatest low high (true_le least greatest (omega (arith, ints))))

-- ---- equality

-- of two informations with one value each there is one pair
pair_of_only : (x y : Info) (test : ℤ → ℤ → Bool) (a b : ℤ) → IsOnly (allows x) a → IsOnly (allows y) b → some_pair x y test ≡ test a b
pair_of_only x y test a b (at_a, only_a) (at_b, only_b) = same_test _ _
    (λ e.
    let (v, w, at_v, at_w, passed) = some_pair_true x y test e in
    subst (λ (n : ℤ). test n b ≡ true) (only_a v at_v) (subst (λ (n : ℤ). test v n ≡ true) (only_b w at_w) passed))
    (λ e. true_some_pair x y test a b at_a at_b e)

-- possible values are compared as the words that the code holds
same_words : (x y : Info) (a b : ℤ) → allows x a ≡ true → allows y b ≡ true → eqb (of_z w64 a) (of_z w64 b) ≡ int_eq a b
same_words x y a b at_a at_b =
    let range_a : (exact_lowest ≤ℤ a) × (a ≤ℤ exact_highest) = allows_in_range x a at_a in
    let range_b : (exact_lowest ≤ℤ b) × (b ≤ℤ exact_highest) = allows_in_range y b at_b in
    same_test _ _
    (λ e. let same = eqb-true (of_z w64 a) (of_z w64 b) e in true_eq a b (omega (arith, ints, same)))
    (λ e. eq-eqb (of_z w64 a) (of_z w64 b) (ap (of_z w64) (eq_true a b e)))

-- of two with one value each, `false` is given if these differ, and `true` if they are equal
pub only_differ : (x y : Info) (a b : ℤ) → IsOnly (allows x) a → IsOnly (allows y) b → image_of_two (λ a b. truth (int_eq a b)) x y (int_eq (pos 0)) ≡ not (eqb (of_z w64 a) (of_z w64 b))
only_differ x y a b only_a only_b =
    image_false int_eq x y ∙ pair_of_only x y (λ a b. not (int_eq a b)) a b only_a only_b ∙ ap not (sym (same_words x y a b only_a.0 only_b.0))

pub only_equal : (x y : Info) (a b : ℤ) → IsOnly (allows x) a → IsOnly (allows y) b → image_of_two (λ a b. truth (int_eq a b)) x y (int_eq (pos 1)) ≡ eqb (of_z w64 a) (of_z w64 b)
only_equal x y a b only_a only_b =
    image_true int_eq x y ∙ pair_of_only x y int_eq a b only_a only_b ∙ sym (same_words x y a b only_a.0 only_b.0)

-- if not both have exactly one value some pair differs
pub some_differ : (x y : Info) (r s : Option ℤ) → is_possible x ≡ true → is_possible y ≡ true
    → ((v : ℤ) → (r ≡ Some v) ↔ IsOnly (allows x) v) → ((v : ℤ) → (s ≡ Some v) ↔ IsOnly (allows y) v)
    → ((a b : ℤ) → r ≡ Some a → s ≡ Some b → ⊥) → some_pair x y (λ a b. not (int_eq a b)) ≡ true
some_differ x y r s possible_x possible_y only_x only_y others = elim (cases_Bool (some_pair x y (λ a b. not (int_eq a b)))) [
  | inl e ↦ e
  | inr none ↦ (
      let (a, at_a, passed_a) = some_true x (λ v. true) possible_x in
      let (b, at_b, passed_b) = some_true y (λ v. true) possible_y in
      let same : (v w : ℤ) → allows x v ≡ true → allows y w ≡ true → v ≡ w = λ v w at_v at_w. elim (cases_Bool (int_eq v w)) [
        | inl e ↦ eq_true v w e
        | inr apart ↦ absurd (not_both _ (true_some_pair x y (λ a b. not (int_eq a b)) v w at_v at_w (to_not _ apart)) none)
      ] in
      absurd (others a b
      ((only_x a).1 (at_a, λ v at_v. same v b at_v at_b ∙ sym (same a b at_a at_b)))
      ((only_y b).1 (at_b, λ w at_w. sym (same a w at_a at_w) ∙ same a b at_a at_b)))
      )
]

-- some pair is equal exactly if the merge of the two is not a contradiction
pub some_equal : (x y both : Info) (r : Bool) → ((v : ℤ) → allows both v ≡ (allows x v && allows y v)) → (IsTrue r ↔ IsContradiction both) → some_pair x y int_eq ≡ not r
some_equal x y both r values tells = same_test _ _
    (λ e.
    let (a, b, at_a, at_b, equal) = some_pair_true x y int_eq e in
    let at_both : allows both a ≡ true = values a ∙ both_true _ _ at_a (subst (λ (n : ℤ). allows y n ≡ true) (sym (eq_true a b equal)) at_b) in
    to_not r (is_false r (λ t. not_both _ at_both (tells.0 t a))))
    (λ e.
    let (v, at_both, passed) = some_true both (λ v. true) (possible both (λ none. not_both r (tells.1 none) (not-true r e))) in
    let parts : (allows x v ≡ true) × (allows y v ≡ true) = true_both _ _ (sym (values v) ∙ at_both) in
    true_some_pair x y int_eq v v parts.0 parts.1 (self_eq v))

-- ---- truths of truths

-- whether a truth may be true
pub has_one : (x : Info) → allows x (pos 1) ≡ some x is_true
has_one x = same_test _ _
    (λ e. true_some x is_true (pos 1) e refl)
    (λ e. let (v, here, one) = some_true x is_true e in subst (λ (n : ℤ). allows x n ≡ true) (eq_true v (pos 1) one) here)

-- of two places the one that is not true is false
place_of_false : (part : Members) (v : ℤ) → size_of part ≡ 2 → members.allows part v ≡ true → not (is_true v) ≡ true → members.allows part (pos 0) ≡ true
place_of_false part (pos zero) two here other = here
place_of_false part (pos (suc zero)) two here other = absurd (cc)
place_of_false part (pos (suc (suc k))) two here other = let below : suc (suc k) < size_of part = allows_below part (suc (suc k)) here in absurd (omega arith)
place_of_false part (negsuc k) two here other = absurd (cc)

-- whether it may be another than true: if it may be false
pub has_other : (part : Members) → size_of part ≡ 2 → members.allows part (pos 0) ≡ some (info.Members 0 part) (λ a. not (is_true a))
has_other part two = same_test _ _
    (λ e. true_some (info.Members 0 part) (λ a. not (is_true a)) (pos 0) e refl)
    (λ e. let (v, here, other) = some_true (info.Members 0 part) (λ a. not (is_true a)) e in place_of_false part v two here other)

-- what `not` gives
pub negation_false : (x : Info) → image_of_one (λ a. truth (not (is_true a))) x (int_eq (pos 0)) ≡ some x is_true
negation_false x = some_same x _ is_true (λ a here. false_is (not (is_true a)) ∙ not_not (is_true a))

pub negation_true : (x : Info) → image_of_one (λ a. truth (not (is_true a))) x (int_eq (pos 1)) ≡ some x (λ a. not (is_true a))
negation_true x = some_same x _ (λ a. not (is_true a)) (λ a here. true_is (not (is_true a)))

-- some pair passes two tests exactly if a value of each passes its own
some_both : (x y : Info) (p q : ℤ → Bool) → some_pair x y (λ a b. p a && q b) ≡ (some x p && some y q)
some_both x y p q = same_test _ _
    (λ e.
    let (a, b, at_a, at_b, passed) = some_pair_true x y (λ a b. p a && q b) e in
    let parts : (p a ≡ true) × (q b ≡ true) = true_both _ _ passed in
    both_true _ _ (true_some x p a at_a parts.0) (true_some y q b at_b parts.1))
    (λ e.
    let parts : (some x p ≡ true) × (some y q ≡ true) = true_both _ _ e in
    let (a, at_a, passed_a) = some_true x p parts.0 in
    let (b, at_b, passed_b) = some_true y q parts.1 in
    true_some_pair x y (λ a b. p a && q b) a b at_a at_b (both_true _ _ passed_a passed_b))

-- some pair passes one of two tests exactly if a value of one passes its own, and the other has a
-- value
some_either : (x y : Info) (p q : ℤ → Bool) → is_possible x ≡ true → is_possible y ≡ true → some_pair x y (λ a b. p a || q b) ≡ (some x p || some y q)
some_either x y p q possible_x possible_y = same_test _ _
    (λ e.
    let (a, b, at_a, at_b, passed) = some_pair_true x y (λ a b. p a || q b) e in
    either_true _ _ (elim (or_cases (p a) (q b) passed) [
      | inl passed_a ↦ inl (true_some x p a at_a passed_a)
      | inr passed_b ↦ inr (true_some y q b at_b passed_b)
    ]))
    (λ e. elim (or_cases (some x p) (some y q) e) [
      | inl found ↦ (
          let (a, at_a, passed) = some_true x p found in
          let (b, at_b, any) = some_true y (λ v. true) possible_y in
          true_some_pair x y (λ a b. p a || q b) a b at_a at_b (either_true (p a) (q b) (inl passed))
          )
      | inr found ↦ (
          let (a, at_a, any) = some_true x (λ v. true) possible_x in
          let (b, at_b, passed) = some_true y q found in
          true_some_pair x y (λ a b. p a || q b) a b at_a at_b (either_true (p a) (q b) (inr passed))
          )
    ])

-- pairs are tested alike by tests that agree
pair_same : (x y : Info) (p q : ℤ → ℤ → Bool) → ((a b : ℤ) → p a b ≡ q a b) → some_pair x y p ≡ some_pair x y q
pair_same x y p q same = some_same x _ _ (λ a at_a. some_same y _ _ (λ b at_b. same a b))

-- what `and` gives, of which `false` wants two that are not contradictions
pub conjunction_false : (x y : Info) → is_possible x ≡ true → is_possible y ≡ true
    → image_of_two (λ a b. truth (is_true a && is_true b)) x y (int_eq (pos 0)) ≡ (some x (λ a. not (is_true a)) || some y (λ b. not (is_true b)))
conjunction_false x y possible_x possible_y =
    image_false (λ a b. is_true a && is_true b) x y
    ∙ pair_same x y (λ a b. not (is_true a && is_true b)) (λ a b. not (is_true a) || not (is_true b)) (λ a b. not_both_tests (is_true a) (is_true b))
    ∙ some_either x y (λ a. not (is_true a)) (λ b. not (is_true b)) possible_x possible_y

pub conjunction_true : (x y : Info) → image_of_two (λ a b. truth (is_true a && is_true b)) x y (int_eq (pos 1)) ≡ (some x is_true && some y is_true)
conjunction_true x y = image_true (λ a b. is_true a && is_true b) x y ∙ some_both x y is_true is_true

-- what `or` gives, of which `true` wants two that are not contradictions
pub disjunction_false : (x y : Info) → image_of_two (λ a b. truth (is_true a || is_true b)) x y (int_eq (pos 0)) ≡ (some x (λ a. not (is_true a)) && some y (λ b. not (is_true b)))
disjunction_false x y =
    image_false (λ a b. is_true a || is_true b) x y
    ∙ pair_same x y (λ a b. not (is_true a || is_true b)) (λ a b. not (is_true a) && not (is_true b)) (λ a b. not_either_test (is_true a) (is_true b))
    ∙ some_both x y (λ a. not (is_true a)) (λ b. not (is_true b))

pub disjunction_true : (x y : Info) → is_possible x ≡ true → is_possible y ≡ true → image_of_two (λ a b. truth (is_true a || is_true b)) x y (int_eq (pos 1)) ≡ (some x is_true || some y is_true)
disjunction_true x y possible_x possible_y = image_true (λ a b. is_true a || is_true b) x y ∙ some_either x y is_true is_true possible_x possible_y
