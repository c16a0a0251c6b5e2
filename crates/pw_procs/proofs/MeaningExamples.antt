-- The definitions of meanings on small inputs, each given by what it leaves possible.
use Rattle.std.proofs.Common.{◌≡◌, ◌<◌, zero, suc, ℤ, pos, negsuc, ◌≤ℤ◌, ◌*ℤ◌, Bool, true, false, not, ◌&&◌, ◌||◌, [], ◌∷◌, if◌then◌else◌, arith, refl, sym, ◌∙◌, ap, subst, inl}
use mathlib.Core.Path.{fun_ext}
use Rattle.std.specs.Int.Signed.{le_z}
use Rattle.std.specs.Int.{int_max, int_min}
use Rattle.std.specs.Ordering.{int_eq}
use Rattle.std.proofs.lemmas.Int.{ints, clamps}
use Rattle.pw_kinds.specs.declared.interval.Interval.{Interval}
use Rattle.pw_kinds.specs.declared.exact.Exact.{Exact}
use Rattle.pw_kinds.specs.Ranges.{interval_lowest, interval_highest, is_in_exact_range}
use Rattle.pw_kinds.specs.Interval.{IsFromTo}
use Rattle.pw_kinds.specs.Interval as interval
use Rattle.pw_kinds.specs.Exact.{IsOne}
use Rattle.pw_kinds.specs.Exact as exact
use Rattle.pw_kinds.specs.Members as members
use Rattle.pw_kinds.proofs.Order.{le_true, true_le, both_true, true_both, same_test, is_false, not_both, between_true, true_between}
use Rattle.pw_kinds.proofs.Intervals as intervals
use Rattle.pw_kinds.proofs.MemberSets as sets
use Rattle.pw_kinds.proofs.Exacts as exacts
use Rattle.pw_kinds.proofs.Examples.{from_to_true, true_from_to}
use Rattle.pw_info.specs.declared.kind.Kind.TheVariants as kinds
use Rattle.pw_info.specs.declared.info.Info.{Info}
use Rattle.pw_info.specs.declared.info.Info.TheVariants as info
use Rattle.pw_info.specs.Information.{allows, kind_of, closest, nothing, contradiction, Implies}
use Rattle.pw_info.proofs.Informations.{closest_is, same_values, allows-nothing, allows-contradiction}
use Rattle.pw_procs.specs.declared.rule.Rule.{Rule}
use Rattle.pw_procs.specs.Values.{NumberSet, IsSetOf, some, is_possible, image_of_one, image_of_two, hull_of, truths_of, truth, bool, just, from_to, two_is_size}
use Rattle.pw_procs.specs.Meaning.{is_quotient_at_most, is_quotient_at_least, between_quotients, quotient_of}
use Rattle.pw_procs.specs.Rules.{includes, all_include, rules_allow, value_of_rules}
use Rattle.pw_procs.specs.Meaning.{negation_of, switched, point_of, fixed_of}
use Rattle.pw_procs.proofs.Possible.{some_true, true_some, none_some}
use Rattle.pw_procs.proofs.Hulls.{image_one, image_two}
use Rattle.pw_procs.proofs.HullLaws.{negation, closest_between}
use Rattle.pw_procs.proofs.RuleValues.{and_true}
use Rattle.pw_procs.proofs.TruthSets.{truths_are}
use Rattle.pw_procs.proofs.MeaningLaws.{passed, quotient_none}
use Rattle.pw_procs.proofs.KindLaws.{kind-quotient}

-- ---- hulls

-- all numbers of a set lie between two ends
abbrev LieBetween : (ℤ → Type 0) → ℤ → ℤ → Type 0
LieBetween numbers lo hi = (z : ℤ) → numbers z → (lo ≤ℤ z) × (z ≤ℤ hi)

-- the hull of a set with a least and a greatest number goes from one to the other, cut to the range
hull_from_to : (numbers : ℤ → Type 0) (set : NumberSet) → IsSetOf numbers set → (lo hi low high : ℤ) → numbers lo → numbers hi → LieBetween numbers lo hi
    → low ≡ int_max lo interval_lowest → high ≡ int_min hi interval_highest → (k : Interval) → IsFromTo k low high → hull_of set ≡ info.Interval k
hull_from_to numbers set are lo hi low high at_lo at_hi inside is_low is_high k f =
    sym (ap info.Interval (intervals.closest_is (λ v. set (λ y. le_z y v) && set (λ y. le_z v y)) k (λ v from to. same_test _ _
    (λ e.
    let at : (low ≤ℤ v) × (v ≤ℤ high) = true_from_to k low high v f e in
    both_true _ _
    (are.found (λ y. le_z y v) lo at_lo (true_le lo v (omega (arith, ints, clamps))))
    (are.found (λ y. le_z v y) hi at_hi (true_le v hi (omega (arith, ints, clamps)))))
    (λ e.
    let both : (set (λ y. le_z y v) ≡ true) × (set (λ y. le_z v y) ≡ true) = true_both _ _ e in
    let (below, below_is, under) = are.known (λ y. le_z y v) both.0 in
    let (above, above_is, over) = are.known (λ y. le_z v y) both.1 in
    let from_low : (lo ≤ℤ below) × (below ≤ℤ hi) = inside below below_is in
    let to_high : (lo ≤ℤ above) × (above ≤ℤ hi) = inside above above_is in
    let up : below ≤ℤ v = le_true below v under in
    let down : v ≤ℤ above = le_true v above over in
    from_to_true k low high v f (omega (arith, ints, clamps)) (omega (arith, ints, clamps))))))

-- what an operation gives on numbers between ends
pub two_from_to : (op : ℤ → ℤ → ℤ) (i j k : Interval) (a b c d at_lo with_lo at_hi with_hi low high : ℤ) → IsFromTo i a b → IsFromTo j c d → IsFromTo k low high
    → (a ≤ℤ at_lo) × (at_lo ≤ℤ b) → (c ≤ℤ with_lo) × (with_lo ≤ℤ d) → (a ≤ℤ at_hi) × (at_hi ≤ℤ b) → (c ≤ℤ with_hi) × (with_hi ≤ℤ d)
    → ((x y : ℤ) → a ≤ℤ x → x ≤ℤ b → c ≤ℤ y → y ≤ℤ d → (op at_lo with_lo ≤ℤ op x y) × (op x y ≤ℤ op at_hi with_hi))
    → low ≡ int_max (op at_lo with_lo) interval_lowest → high ≡ int_min (op at_hi with_hi) interval_highest
    → hull_of (image_of_two op (info.Interval i) (info.Interval j)) ≡ info.Interval k
two_from_to op i j k a b c d at_lo with_lo at_hi with_hi low high f g h (p, q) (r, s) (t, u) (v, w) inside is_low is_high =
    hull_from_to _ _ (image_two op (info.Interval i) (info.Interval j)) (op at_lo with_lo) (op at_hi with_hi) low high
    (at_lo, with_lo, from_to_true i a b at_lo f p q, from_to_true j c d with_lo g r s, refl)
    (at_hi, with_hi, from_to_true i a b at_hi f t u, from_to_true j c d with_hi g v w, refl)
    (λ z here.
    let (x, y, x_possible, y_possible, is) = here in
    let at_x : (a ≤ℤ x) × (x ≤ℤ b) = true_from_to i a b x f x_possible in
    let at_y : (c ≤ℤ y) × (y ≤ℤ d) = true_from_to j c d y g y_possible in
    subst (λ (n : ℤ). (op at_lo with_lo ≤ℤ n) × (n ≤ℤ op at_hi with_hi)) (sym is) (inside x y at_x.0 at_x.1 at_y.0 at_y.1))
    is_low is_high k h

-- the squares of the numbers from -1 to 2
square_between : (a : ℤ) → negsuc 0 ≤ℤ a → a ≤ℤ pos 2 → (pos 0 ≤ℤ (a *ℤ a)) × ((a *ℤ a) ≤ℤ pos 4)
square_between (pos zero) p q = (omega (arith, ints), omega (arith, ints))
square_between (pos (suc zero)) p q = (omega (arith, ints), omega (arith, ints))
square_between (pos (suc (suc zero))) p q = (omega (arith, ints), omega (arith, ints))
square_between (pos (suc (suc (suc n)))) p q = absurd (omega (arith, ints))
square_between (negsuc zero) p q = (omega (arith, ints), omega (arith, ints))
square_between (negsuc (suc n)) p q = absurd (omega (arith, ints))

pub squares_from_to : (i k : Interval) → IsFromTo i (negsuc 0) (pos 2) → IsFromTo k (pos 0) (pos 4)
    → hull_of (image_of_one (λ a. a *ℤ a) (info.Interval i)) ≡ info.Interval k
squares_from_to i k f h =
    hull_from_to _ _ (image_one (λ a. a *ℤ a) (info.Interval i)) (pos 0) (pos 4) (pos 0) (pos 4)
    (pos 0, from_to_true i (negsuc 0) (pos 2) (pos 0) f (omega (arith, ints)) (omega (arith, ints)), refl)
    (pos 2, from_to_true i (negsuc 0) (pos 2) (pos 2) f (omega (arith, ints)) (omega (arith, ints)), refl)
    (λ z here.
    let (a, possible, is) = here in
    let at : (negsuc 0 ≤ℤ a) × (a ≤ℤ pos 2) = true_from_to i (negsuc 0) (pos 2) a f possible in
    subst (λ (n : ℤ). (pos 0 ≤ℤ n) × (n ≤ℤ pos 4)) (sym is) (square_between a at.0 at.1))
    (omega (arith, ints, clamps)) (omega (arith, ints, clamps)) k h

-- ---- quotients by 2

-- a divisor that is exactly 2, and what passes of a value and of it
is_two : (j : Interval) (b : ℤ) → IsFromTo j (pos 2) (pos 2) → interval.allows j b ≡ true → b ≡ pos 2
is_two j b g e = let at : (pos 2 ≤ℤ b) × (b ≤ℤ pos 2) = true_from_to j (pos 2) (pos 2) b g e in omega (arith, ints)

some_half : (i j : Interval) (test : ℤ → ℤ → Bool) → IsFromTo j (pos 2) (pos 2) → some (info.Interval i) (λ a. some (info.Interval j) (λ b. test a b)) ≡ true
    → (a : ℤ) × (interval.allows i a ≡ true) × (test a (pos 2) ≡ true)
some_half i j test g e =
    let (a, possible, h) = some_true (info.Interval i) (λ a. some (info.Interval j) (λ b. test a b)) e in
    let (b, two, passes) = some_true (info.Interval j) (λ b. test a b) h in
    (a, possible, subst (λ (x : ℤ). test a x ≡ true) (is_two j b g two) passes)

half_some : (i j : Interval) (test : ℤ → ℤ → Bool) (a : ℤ) → IsFromTo j (pos 2) (pos 2) → interval.allows i a ≡ true → test a (pos 2) ≡ true
    → some (info.Interval i) (λ a. some (info.Interval j) (λ b. test a b)) ≡ true
half_some i j test a g possible passes =
    true_some (info.Interval i) (λ a. some (info.Interval j) (λ b. test a b)) a possible
    (true_some (info.Interval j) (λ b. test a b) (pos 2) (from_to_true j (pos 2) (pos 2) (pos 2) g (omega (arith, ints)) (omega (arith, ints))) passes)

-- the halves of the numbers from a to b are the whole numbers whose doubles lie there
pub half_from_to : (i j k : Interval) (a b low high : ℤ) → IsFromTo i a b → IsFromTo j (pos 2) (pos 2) → IsFromTo k low high → a ≤ℤ b
    → ((q : ℤ) → a ≤ℤ (q *ℤ pos 2) → (q *ℤ pos 2) ≤ℤ b → (low ≤ℤ q) × (q ≤ℤ high))
    → ((q : ℤ) → low ≤ℤ q → q ≤ℤ high → (a ≤ℤ (q *ℤ pos 2)) × ((q *ℤ pos 2) ≤ℤ b))
    → quotient_of (info.Interval i) (info.Interval j) ≡ info.Interval k
half_from_to i j k a b low high f g h ordered into out =
    let no_zero : (is_possible (info.Interval i) && interval.allows j (pos 0)) ≡ false = is_false _ (λ e. not_both _ (true_both _ _ e).1 (g (pos 0))) in
    subst (λ (test : Bool). (if test then nothing kinds.Interval else between_quotients (info.Interval i) (info.Interval j)) ≡ info.Interval k) (sym no_zero)
    (sym (ap info.Interval (intervals.closest_is _ k (λ q from to. same_test _ _
    (λ e.
    let at : (low ≤ℤ q) × (q ≤ℤ high) = true_from_to k low high q h e in
    let doubled : (a ≤ℤ (q *ℤ pos 2)) × ((q *ℤ pos 2) ≤ℤ b) = out q at.0 at.1 in
    both_true _ _
    (half_some i j (is_quotient_at_most q) a g (from_to_true i a b a f (omega (arith, ints)) ordered) (true_le a (q *ℤ pos 2) doubled.0))
    (half_some i j (is_quotient_at_least q) b g (from_to_true i a b b f ordered (omega (arith, ints))) (true_le (q *ℤ pos 2) b doubled.1)))
    (λ e.
    let both = true_both (some (info.Interval i) (λ v. some (info.Interval j) (is_quotient_at_most q v))) (some (info.Interval i) (λ v. some (info.Interval j) (is_quotient_at_least q v))) e in
    let (below, below_possible, under) = some_half i j (is_quotient_at_most q) g both.0 in
    let (above, above_possible, over) = some_half i j (is_quotient_at_least q) g both.1 in
    let at_below : (a ≤ℤ below) × (below ≤ℤ b) = true_from_to i a b below f below_possible in
    let at_above : (a ≤ℤ above) × (above ≤ℤ b) = true_from_to i a b above f above_possible in
    let up : below ≤ℤ (q *ℤ pos 2) = le_true below (q *ℤ pos 2) under in
    let down : (q *ℤ pos 2) ≤ℤ above = le_true (q *ℤ pos 2) above over in
    let at : (low ≤ℤ q) × (q ≤ℤ high) = into q (omega (arith, ints)) (omega (arith, ints)) in
    from_to_true k low high q h at.0 at.1)))))

-- nothing is known about a quotient by what may be 0
pub quotient_open : (i j : Interval) (a b c d : ℤ) → IsFromTo i a b → IsFromTo j c d → a ≤ℤ b → c ≤ℤ pos 0 → pos 0 ≤ℤ d
    → quotient_of (info.Interval i) (info.Interval j) ≡ nothing kinds.Interval
quotient_open i j a b c d f g ordered low high =
    let some_number : is_possible (info.Interval i) ≡ true = true_some (info.Interval i) (λ v. true) a (from_to_true i a b a f (omega (arith, ints)) ordered) refl in
    let may_be_zero : (is_possible (info.Interval i) && interval.allows j (pos 0)) ≡ true = both_true _ _ some_number (from_to_true j c d (pos 0) g low high) in
    subst (λ (test : Bool). (if test then nothing kinds.Interval else between_quotients (info.Interval i) (info.Interval j)) ≡ nothing kinds.Interval) (sym may_be_zero) refl

-- of nothing possible there is no quotient
pub quotient_of_none : (x : Info) → quotient_of (contradiction kinds.Interval) x ≡ contradiction kinds.Interval
quotient_of_none x = same_values _ _ (kind-quotient (contradiction kinds.Interval) x)
    (λ v. quotient_none (contradiction kinds.Interval) x (inl (allows-contradiction kinds.Interval)) v ∙ sym (allows-contradiction kinds.Interval v))

-- ---- truths

-- truths are equal exactly if their values are
same_truth : (b c : Bool) → int_eq (truth b) (truth c) ≡ true → b ≡ c
same_truth true true e = refl
same_truth true false e = sym e
same_truth false true e = e
same_truth false false e = refl

truth_same : (b c : Bool) → b ≡ c → int_eq (truth b) (truth c) ≡ true
truth_same true true e = refl
truth_same true false e = sym e
truth_same false true e = e
truth_same false false e = refl

negation_truth : (b : Bool) → negation (truth b) ≡ truth (not b)
negation_truth true = refl
negation_truth false = refl

-- the truths of a set are those that it has
pub truths_at : (set : NumberSet) (p : ℤ → Bool) → set (int_eq (pos 0)) ≡ p (pos 0) → set (int_eq (pos 1)) ≡ p (pos 1) → truths_of set ≡ closest bool p
truths_at set p at_false at_true = sym (truths_are set (members.closest 2 p) (sets.size_of-closest 2 p two_is_size)
    (sets.allows-closest 2 p two_is_size 0 (omega arith) ∙ sym at_false) (sets.allows-closest 2 p two_is_size 1 (omega arith) ∙ sym at_true))

-- what a test gives on two possible values it gives, and what it gives on no two it does not
pub gives : (t : ℤ → ℤ → Bool) (x y : Info) (test : Bool) (a b : ℤ) → allows x a ≡ true → allows y b ≡ true → t a b ≡ test
    → image_of_two (λ a b. truth (t a b)) x y (int_eq (truth test)) ≡ true
gives t x y test a b a_possible b_possible is =
    true_some x (λ v. some y (λ w. int_eq (truth test) (truth (t v w)))) a a_possible
    (true_some y (λ w. int_eq (truth test) (truth (t a w))) b b_possible (truth_same test (t a b) (sym is)))

pub never : (t : ℤ → ℤ → Bool) (x y : Info) (test : Bool) → ((a b : ℤ) → allows x a ≡ true → allows y b ≡ true → t a b ≡ test → ⊥)
    → image_of_two (λ a b. truth (t a b)) x y (int_eq (truth test)) ≡ false
never t x y test none = is_false _ (λ e.
    let (a, a_possible, h) = some_true x (λ v. some y (λ w. int_eq (truth test) (truth (t v w)))) e in
    let (b, b_possible, is) = some_true y (λ w. int_eq (truth test) (truth (t a w))) h in
    none a b a_possible b_possible (sym (same_truth test (t a b) is)))

-- one truth alone allows itself, and nothing else
pub just_itself : (b : Bool) → allows (just b) (truth b) ≡ true
just_itself true = sets.allows-closest 2 (int_eq (truth true)) two_is_size 1 (omega arith)
just_itself false = sets.allows-closest 2 (int_eq (truth false)) two_is_size 0 (omega arith)

pub just_only : (b : Bool) (v : ℤ) → allows (just b) v ≡ true → v ≡ truth b
just_only b (pos k) e =
    let part = members.closest 2 (int_eq (truth b)) in
    let l : k < 2 = subst (λ s. k < s) (sets.size_of-closest 2 (int_eq (truth b)) two_is_size) (sets.allows_below part k e) in
    sym (exacts.eq_true (truth b) (pos k) (sym (sets.allows-closest 2 (int_eq (truth b)) two_is_size k l) ∙ e))
just_only b (negsuc k) e = absurd (not_both _ e refl)

-- either truth is possible if nothing is known
pub either : (b : Bool) → allows (nothing bool) (truth b) ≡ true
either true = allows-nothing bool (pos 1)
either false = allows-nothing bool (pos 0)

pub or_true : (b : Bool) → (b || true) ≡ true
or_true true = refl
or_true false = refl

-- `not` of one truth
pub negated : (b : Bool) → negation_of (just b) ≡ just (not b)
negated b = truths_at (image_of_one negation (just b)) (int_eq (truth (not b))) (at (pos 0)) (at (pos 1))
  where
    at : (z : ℤ) → image_of_one negation (just b) (int_eq z) ≡ int_eq (truth (not b)) z
    at z = same_test _ _
        (λ e. let (a, here, is) = some_true (just b) (λ v. int_eq z (negation v)) e in
        exacts.true_eq (truth (not b)) z (sym (exacts.eq_true z (negation a) is ∙ ap negation (just_only b a here) ∙ negation_truth b)))
        (λ e. true_some (just b) (λ v. int_eq z (negation v)) (truth b) (just_itself b)
        (exacts.true_eq z (negation (truth b)) (sym (exacts.eq_true (truth (not b)) z e) ∙ sym (negation_truth b))))

-- ---- ranges of numbers

-- exactly the numbers from lo to hi are possible, if both ends are in range
pub from_to_is : (lo hi : ℤ) → (le_z interval_lowest lo && le_z hi interval_highest) ≡ true → IsFromTo (interval.closest (λ v. le_z lo v && le_z v hi)) lo hi
from_to_is lo hi e v =
    let both : (le_z interval_lowest lo ≡ true) × (le_z hi interval_highest ≡ true) = true_both _ _ e in
    let low : interval_lowest ≤ℤ lo = le_true interval_lowest lo both.0 in
    let high : hi ≤ℤ interval_highest = le_true hi interval_highest both.1 in
    same_test _ _
    (λ here.
    let at : (lo ≤ℤ v) × (v ≤ℤ hi) = closest_between (λ v. le_z lo v && le_z v hi) lo hi (λ w r h. between_true lo w hi h) v here in
    true_between lo v hi at.0 at.1)
    (λ passes.
    let at : (lo ≤ℤ v) × (v ≤ℤ hi) = between_true lo v hi passes in
    (intervals.closest_closest (λ v. le_z lo v && le_z v hi)).holds v (true_between interval_lowest v interval_highest (omega (arith, ints)) (omega (arith, ints))) passes)

-- ---- switches

-- a switch that is exactly true passes its input, and one that may be false passes nothing
pub switched_open : (p x : Info) → allows p (truth true) ≡ true → allows p (truth false) ≡ false → switched p x ≡ x
switched_open p x may_be_true is_not_false =
    let possible : is_possible p ≡ true = true_some p (λ v. true) (truth true) may_be_true refl in
    ap (λ b. passed b (allows p (truth false)) x) possible ∙ ap (λ b. passed true b x) is_not_false

pub switched_closed : (p x : Info) → allows p (truth false) ≡ true → switched p x ≡ nothing (kind_of x)
switched_closed p x may_be_false =
    let possible : is_possible p ≡ true = true_some p (λ v. true) (truth false) may_be_false refl in
    ap (λ b. passed b (allows p (truth false)) x) possible ∙ ap (λ b. passed true b x) may_be_false

-- ---- rules

-- the value of one rule of one input, by whether it applies
one_rule : (rule : Rule) (guard x : Info) (test : Bool) → rule.guards.items ≡ guard ∷ [] → includes guard x ≡ test → is_possible x ≡ true
    → value_of_rules (kind_of rule.result) (rule ∷ []) (x ∷ []) ≡ closest (kind_of rule.result) (λ v. not test || allows rule.result v)
one_rule rule guard x test is applies possible =
    let applied : all_include rule.guards.items (x ∷ []) ≡ test = ap (λ guards. all_include guards (x ∷ [])) is ∙ and_true _ ∙ applies in
    ap (λ b. if b && true then closest (kind_of rule.result) (rules_allow (rule ∷ []) (x ∷ [])) else contradiction (kind_of rule.result)) possible
    ∙ ap (closest (kind_of rule.result)) (fun_ext (λ v. and_true _ ∙ ap (λ b. not b || allows rule.result v) applied))

-- a rule whose guard includes the input gives its result
pub rule_applies : (rule : Rule) (guard x : Info) → rule.guards.items ≡ guard ∷ [] → is_possible x ≡ true → Implies x guard
    → value_of_rules (kind_of rule.result) (rule ∷ []) (x ∷ []) ≡ rule.result
rule_applies rule guard x is possible implied =
    let none : some x (λ v. not (allows guard v)) ≡ false = none_some x (λ v. not (allows guard v)) (λ v here e. not_both _ e (ap not (implied v here))) in
    one_rule rule guard x true is (ap not none) possible ∙ sym (closest_is (allows rule.result) rule.result (λ v e. refl))

-- one whose guard leaves out a value that the input leaves possible gives nothing
pub rule_waits : (rule : Rule) (guard x : Info) (v : ℤ) → rule.guards.items ≡ guard ∷ [] → allows x v ≡ true → allows guard v ≡ false
    → value_of_rules (kind_of rule.result) (rule ∷ []) (x ∷ []) ≡ nothing (kind_of rule.result)
rule_waits rule guard x v is here outside =
    let one : some x (λ w. not (allows guard w)) ≡ true = true_some x (λ w. not (allows guard w)) v here (ap not outside) in
    one_rule rule guard x false is (ap not one) (true_some x (λ w. true) v here refl)

-- ---- exact numbers

-- the values that are possible, as a set
some_set : (x : Info) → IsSetOf (λ z. allows x z ≡ true) (some x)
some_set x = record { found = λ passes z here e. true_some x passes z here e; known = λ passes e. some_true x passes e }

-- the interval of an exact number, and the exact number of an interval
pub point_one : (e : Exact) (k : Interval) (n : ℤ) → interval_lowest ≤ℤ n → n ≤ℤ interval_highest → IsOne e n → IsFromTo k n n → point_of (info.Exact e) ≡ info.Interval k
point_one e k n low high one h =
    hull_from_to _ _ (some_set (info.Exact e)) n n n n (one n ∙ exacts.self_eq n) (one n ∙ exacts.self_eq n)
    (λ z here. let same : z ≡ n = exacts.eq_true z n (sym (one z) ∙ here) in (omega (arith, ints), omega (arith, ints)))
    (omega (arith, ints, clamps)) (omega (arith, ints, clamps)) k h

pub fixed_one : (i : Interval) (e : Exact) (n : ℤ) → IsFromTo i n n → IsOne e n → fixed_of (info.Interval i) ≡ info.Exact e
fixed_one i e n f one = sym (ap info.Exact (exacts.closest_is (interval.allows i) e (λ v r. one v ∙ sym (f v ∙ same_test _ _
    (λ h. let at : (n ≤ℤ v) × (v ≤ℤ n) = between_true n v n h in let same : v ≡ n = omega (arith, ints) in exacts.true_eq v n same)
    (λ h. let same : v ≡ n = exacts.eq_true v n h in true_between n v n (omega (arith, ints)) (omega (arith, ints)))))))

-- only one number is possible, if it is in range
pub exactly_is : (n : ℤ) → is_in_exact_range n ≡ true → IsOne (exact.closest (λ v. int_eq v n)) n
exactly_is n range = subst (λ (e : Exact). IsOne e n)
    (exacts.closest_is (λ v. int_eq v n) (exact.checked n _ refl) (λ v r. exacts.one_is n range v)) (exacts.one_is n range)

-- nothing is possible from 4 to 3
pub empty_from_to : IsFromTo (interval.closest (λ v. false)) (pos 4) (pos 3)
empty_from_to v = allows-contradiction kinds.Interval v ∙ sym (is_false _ (λ e.
    let at : (pos 4 ≤ℤ v) × (v ≤ℤ pos 3) = between_true (pos 4) v (pos 3) e in absurd (omega (arith, ints))))

-- what is possible of a range of numbers
pub in_range : (lo hi v : ℤ) → (le_z interval_lowest lo && le_z hi interval_highest) ≡ true → allows (from_to lo hi) v ≡ true → (lo ≤ℤ v) × (v ≤ℤ hi)
in_range lo hi v e here = true_from_to (interval.closest (λ v. le_z lo v && le_z v hi)) lo hi v (from_to_is lo hi e) here

pub range_in : (lo hi v : ℤ) → (le_z interval_lowest lo && le_z hi interval_highest) ≡ true → lo ≤ℤ v → v ≤ℤ hi → allows (from_to lo hi) v ≡ true
range_in lo hi v e from to = from_to_true (interval.closest (λ v. le_z lo v && le_z v hi)) lo hi v (from_to_is lo hi e) from to
