-- Meanings grow with their inputs, give contradictions of contradictions, and lose no solution.
use Rattle.std.proofs.Common.{◌≡◌, ◌≢◌, ℕ, zero, suc, ◌<◌, ℤ, pos, ◌+ℤ◌, ◌-ℤ◌, ◌*ℤ◌, List, [], ◌∷◌, length, map, Bool, true, false, not, ◌&&◌, ◌||◌, if◌then◌else◌, ◌⊎◌, inl, inr, arith, refl, sym, ◌∙◌, ap, subst}
use Rattle.std.specs.List.{AllZip, list_all}
use Rattle.std.specs.Int.Signed.{le_z, lt_z}
use Rattle.std.proofs.lemmas.Int.{ints}
use Rattle.std.proofs.lemmas.List.Folds.{list_all_at}
use Rattle.std.proofs.lemmas.Bool.{not-true}
use Rattle.pw_kinds.specs.Ranges.{is_in_interval_range}
use Rattle.pw_kinds.proofs.Order.{true_le, both_true, true_both, is_false, not_both}
use Rattle.pw_kinds.proofs.Intervals.{closest_closest}
use Rattle.pw_info.specs.declared.kind.Kind.{Kind}
use Rattle.pw_info.specs.declared.kind.Kind.TheVariants as kinds
use Rattle.pw_info.specs.declared.info.Info.{Info}
use Rattle.pw_info.specs.Information.{allows, kind_of, closest, nothing, contradiction, Implies, IsContradiction}
use Rattle.pw_info.proofs.Informations.{implies_nothing, allows-nothing, allows-contradiction, kind-closest, closest_mono}
use Rattle.pw_procs.specs.declared.rule.Rule.{Rule}
use Rattle.pw_procs.specs.declared.signature.Slot.{Slot}
use Rattle.pw_procs.specs.declared.meaning.Meaning.{Meaning}
use Rattle.pw_procs.specs.declared.meaning.Meaning.TheVariants as meanings
use Rattle.pw_procs.specs.Slots.{FitSlots, kind_in_slot}
use Rattle.pw_procs.specs.Values.{some, is_possible, input, truth, image_of_two, hull_of, truths_of}
use Rattle.pw_procs.specs.Meaning.{is_quotient_at_most, is_quotient_at_least, between_quotients, quotient_of}
use Rattle.pw_procs.specs.Rules.{includes, all_include, rules_allow, value_of_rules}
use Rattle.pw_procs.specs.Meaning.{AreSlotsOf, value_of_meaning, switched}
use Rattle.pw_procs.proofs.Possible.{true_some, some_mono, contradiction_none}
use Rattle.pw_procs.proofs.FittingInputs.{one_fits, two_fit}
use Rattle.pw_procs.proofs.KindLaws.{fit_same}
use Rattle.pw_procs.proofs.HullLaws.{at_most, equality, negation, conjunction, disjunction, hull_mono, truths_mono, one_mono, two_mono, pair_mono, closest_none, hull_none, truths_none, one_none, two_none, pair_none}

-- ---- inputs by place

-- each input of the more informed is more informed, and of the same kind
input_implied : (ys xs : List Info) → AllZip Implies ys xs → (k : ℕ) → Implies (input ys k) (input xs k)
input_implied [] [] h k v e = e
input_implied [] (x ∷ xs) h k v e = absurd h
input_implied (y ∷ ys) [] h k v e = absurd h
input_implied (y ∷ ys) (x ∷ xs) h zero v e = h.0 v e
input_implied (y ∷ ys) (x ∷ xs) h (suc k) v e = input_implied ys xs h.1 k v e

input_kind : (ys xs : List Info) → map kind_of ys ≡ map kind_of xs → (k : ℕ) → kind_of (input ys k) ≡ kind_of (input xs k)
input_kind [] [] h k = refl
input_kind [] (x ∷ xs) h k = absurd (cc)
input_kind (y ∷ ys) [] h k = absurd (cc)
input_kind (y ∷ ys) (x ∷ xs) h zero = cc
input_kind (y ∷ ys) (x ∷ xs) h (suc k) = let rest : map kind_of ys ≡ map kind_of xs = cc in input_kind ys xs rest k

-- ---- more informed inputs

-- an information of a kind is implied by its contradiction
contradiction_implies : (k : Kind) (a : Info) → Implies (contradiction k) a
contradiction_implies k a v e = absurd (not_both _ e (allows-contradiction k v))

-- some value is possible in the less informed if one is in the more informed
possible_mono : (y x : Info) → Implies y x → is_possible y ≡ true → is_possible x ≡ true
possible_mono y x implied e = some_mono y x (λ v. true) (λ v. true) implied (λ v h. h) e

-- what a switch passes, by whether its truth is possible and whether it may be false
abbrev pub passed : Bool → Bool → Info → Info
passed possible closed x = if not possible then contradiction (kind_of x) else if closed then nothing (kind_of x) else x

passed_mono : (possible' possible closed' closed : Bool) (y x : Info) → kind_of y ≡ kind_of x → Implies y x
    → (possible' ≡ true → possible ≡ true) → (closed' ≡ true → closed ≡ true) → Implies (passed possible' closed' y) (passed possible closed x)
passed_mono false possible closed' closed y x same implied more close = contradiction_implies (kind_of y) (passed possible closed x)
passed_mono true false closed' closed y x same implied more close = absurd (not_both _ (more refl) refl)
passed_mono true true true true y x same implied more close =
    implies_nothing (nothing (kind_of y)) (kind_of x) (kind-closest (kind_of y) (λ v. true) ∙ same)
passed_mono true true true false y x same implied more close = absurd (not_both _ (close refl) refl)
passed_mono true true false true y x same implied more close = implies_nothing y (kind_of x) same
passed_mono true true false false y x same implied more close = implied

-- nothing if one test passes, which passes if another does
open_mono : (test' test : Bool) (y x : Info) → (test' ≡ true → test ≡ true) → kind_of y ≡ kinds.Interval → Implies y x
    → Implies (if test' then nothing kinds.Interval else y) (if test then nothing kinds.Interval else x)
open_mono true true y x more same implied v e = e
open_mono true false y x more same implied v e = absurd (not_both _ (more refl) refl)
open_mono false true y x more same implied v e = implies_nothing y kinds.Interval same v e
open_mono false false y x more same implied v e = implied v e

-- the contradiction if one test fails, which passes if another does
closed_mono : (test' test : Bool) (k : Kind) (y x : Info) → (test' ≡ true → test ≡ true) → Implies y x
    → Implies (if test' then y else contradiction k) (if test then x else contradiction k)
closed_mono true true k y x more implied = implied
closed_mono true false k y x more implied = absurd (not_both _ (more refl) refl)
closed_mono false test k y x more implied = contradiction_implies k (if test then x else contradiction k)

-- a quotient is more informed if its inputs are
quotient_mono : (s y t x : Info) → Implies s t → Implies y x → Implies (quotient_of s y) (quotient_of t x)
quotient_mono s y t x first_implied second_implied = open_mono (is_possible s && allows y (pos 0)) (is_possible t && allows x (pos 0)) _ _
    (λ e. let both : (is_possible s ≡ true) × (allows y (pos 0) ≡ true) = true_both _ _ e in
    both_true _ _ (possible_mono s t first_implied both.0) (second_implied (pos 0) both.1))
    refl
    (closest_mono kinds.Interval _ _ (λ q r e.
    let both : (some s (λ a. some y (λ b. is_quotient_at_most q a b)) ≡ true) × (some s (λ a. some y (λ b. is_quotient_at_least q a b)) ≡ true) = true_both _ _ e in
    both_true _ _
    (pair_mono s y t x (is_quotient_at_most q) first_implied second_implied both.0)
    (pair_mono s y t x (is_quotient_at_least q) first_implied second_implied both.1)))

-- a guard that includes an input includes a more informed one, and so do guards one by one
includes_mono : (guard y x : Info) → Implies y x → includes guard x ≡ true → includes guard y ≡ true
includes_mono guard y x implied e = ap not (is_false _ (λ h.
    not_both _ (some_mono y x (λ v. not (allows guard v)) (λ v. not (allows guard v)) implied (λ v k. k) h) (not-true _ e)))

all_include_mono : (guards ys xs : List Info) → AllZip Implies ys xs → all_include guards xs ≡ true → all_include guards ys ≡ true
all_include_mono [] ys xs h e = refl
all_include_mono (guard ∷ guards) [] [] h e = e
all_include_mono (guard ∷ guards) [] (x ∷ xs) h e = absurd h
all_include_mono (guard ∷ guards) (y ∷ ys) [] h e = absurd h
all_include_mono (guard ∷ guards) (y ∷ ys) (x ∷ xs) h e =
    let both : (includes guard x ≡ true) × (all_include guards xs ≡ true) = true_both _ _ e in
    both_true _ _ (includes_mono guard y x h.0 both.0) (all_include_mono guards ys xs h.1 both.1)

-- a rule that applies to less informed inputs applies to more informed ones, and so leaves no more
-- possible
rule_mono : (applies applied result : Bool) → (applied ≡ true → applies ≡ true) → (not applies || result) ≡ true → (not applied || result) ≡ true
rule_mono applies false result more e = refl
rule_mono true true result more e = e
rule_mono false true result more e = absurd (not_both _ (more refl) refl)

-- what rules leave possible of more informed inputs they leave possible of less informed ones
rules_mono : (rules : List Rule) (ys xs : List Info) → AllZip Implies ys xs → (v : ℤ) → rules_allow rules ys v ≡ true → rules_allow rules xs v ≡ true
rules_mono [] ys xs h v e = e
rules_mono (rule ∷ rules) ys xs h v e =
    let both : ((not (all_include rule.guards.items ys) || allows rule.result v) ≡ true) × (rules_allow rules ys v ≡ true) = true_both _ _ e in
    both_true _ _
    (rule_mono _ (all_include rule.guards.items xs) _ (all_include_mono rule.guards.items ys xs h) both.0)
    (rules_mono rules ys xs h v both.1)

-- inputs that are all possible are so if they are less informed
all_possible_mono : (ys xs : List Info) → AllZip Implies ys xs → list_all is_possible ys ≡ true → list_all is_possible xs ≡ true
all_possible_mono [] [] h e = e
all_possible_mono [] (x ∷ xs) h e = absurd h
all_possible_mono (y ∷ ys) [] h e = absurd h
all_possible_mono (y ∷ ys) (x ∷ xs) h e =
    let both : (is_possible y ≡ true) × (list_all is_possible ys ≡ true) = true_both _ _ e in
    both_true _ _ (possible_mono y x h.0 both.0) (all_possible_mono ys xs h.1 both.1)

-- the value of rules is more informed where the inputs are
value_of_rules_mono : (k : Kind) (rules : List Rule) (ys xs : List Info) → AllZip Implies ys xs → Implies (value_of_rules k rules ys) (value_of_rules k rules xs)
value_of_rules_mono k rules ys xs h = closed_mono (list_all is_possible ys) (list_all is_possible xs) k _ _ (all_possible_mono ys xs h)
    (closest_mono k (rules_allow rules ys) (rules_allow rules xs) (λ v r e. rules_mono rules ys xs h v e))

-- hulls and truths of two inputs
module _ (ys xs : List Info) (implied : AllZip Implies ys xs) (op : ℤ → ℤ → ℤ) where
  hull_of_two_mono : Implies (hull_of (image_of_two op (input ys 0) (input ys 1))) (hull_of (image_of_two op (input xs 0) (input xs 1)))
  hull_of_two_mono = hull_mono _ _ (two_mono op _ _ _ _ (input_implied ys xs implied 0) (input_implied ys xs implied 1))

  truths_of_two_mono : Implies (truths_of (image_of_two op (input ys 0) (input ys 1))) (truths_of (image_of_two op (input xs 0) (input xs 1)))
  truths_of_two_mono = truths_mono _ _ (two_mono op _ _ _ _ (input_implied ys xs implied 0) (input_implied ys xs implied 1))

-- the value is more informed where the inputs are
module _ (output : Slot) (ys xs : List Info) (same : map kind_of ys ≡ map kind_of xs) (implied : AllZip Implies ys xs) where
  pub value_mono : (meaning : Meaning) → Implies (value_of_meaning output meaning ys) (value_of_meaning output meaning xs)
  value_mono meanings.Adder = hull_of_two_mono ys xs implied (λ a b. a +ℤ b)
  value_mono meanings.Subtractor = hull_of_two_mono ys xs implied (λ a b. a -ℤ b)
  value_mono meanings.Multiplier = hull_of_two_mono ys xs implied (λ a b. a *ℤ b)
  value_mono meanings.Squarer = hull_mono _ _ (one_mono (λ a. a *ℤ a) _ _ (input_implied ys xs implied 0))
  value_mono meanings.Divider = quotient_mono _ _ _ _ (input_implied ys xs implied 0) (input_implied ys xs implied 1)
  value_mono meanings.AtMost = truths_of_two_mono ys xs implied at_most
  value_mono meanings.Equal = truths_of_two_mono ys xs implied equality
  value_mono meanings.Inverter = truths_mono _ _ (one_mono negation _ _ (input_implied ys xs implied 0))
  value_mono meanings.Conjoiner = truths_of_two_mono ys xs implied conjunction
  value_mono meanings.Disjoiner = truths_of_two_mono ys xs implied disjunction
  value_mono meanings.Switch = passed_mono _ _ _ _ (input ys 1) (input xs 1) (input_kind ys xs same 1) (input_implied ys xs implied 1)
      (possible_mono (input ys 0) (input xs 0) (input_implied ys xs implied 0)) (input_implied ys xs implied 0 (truth false))
  value_mono meanings.Copy = input_implied ys xs implied 0
  value_mono meanings.Point = hull_mono _ _ (λ passes. some_mono (input ys 0) (input xs 0) passes passes (input_implied ys xs implied 0) (λ v e. e))
  value_mono meanings.Fixed = closest_mono kinds.Exact _ _ (λ v r e. input_implied ys xs implied 0 v e)
  value_mono (meanings.Rules rules) = value_of_rules_mono (kind_in_slot kinds.Interval output) rules.items ys xs implied

-- ---- contradictory inputs

-- of one or two inputs the one that is contradictory
contradictory_one : (s : Slot) (slots : List Slot) (xs : List Info) → slots ≡ s ∷ [] → FitSlots slots xs → (k : ℕ) → k < length xs
    → IsContradiction (input xs k) → IsContradiction (input xs 0)
contradictory_one s slots xs is f zero l none = none
contradictory_one s slots xs is f (suc k) l none =
    let one : length xs ≡ 1 = (one_fits s xs (f.0, fit_same slots (s ∷ []) xs is f)).0 in
    absurd (omega arith)

contradictory_two : (s t : Slot) (slots : List Slot) (xs : List Info) → slots ≡ s ∷ t ∷ [] → FitSlots slots xs → (k : ℕ) → k < length xs
    → IsContradiction (input xs k) → IsContradiction (input xs 0) ⊎ IsContradiction (input xs 1)
contradictory_two s t slots xs is f zero l none = inl none
contradictory_two s t slots xs is f (suc zero) l none = inr none
contradictory_two s t slots xs is f (suc (suc k)) l none =
    let two : length xs ≡ 2 = (two_fit s t xs (f.0, fit_same slots (s ∷ t ∷ []) xs is f)).0 in
    absurd (omega arith)

-- a switch whose truth is contradictory gives the contradiction
pub switched_none : (p x : Info) → IsContradiction p → IsContradiction (switched p x)
switched_none p x none = subst (λ (b : Bool). IsContradiction (passed b (allows p (truth false)) x)) (sym (contradiction_none p none (λ v. true)))
    (allows-contradiction (kind_of x))

-- a quotient with a contradictory input is not open, and so is the contradiction
not_open : (t x : Info) → IsContradiction t ⊎ IsContradiction x → (is_possible t && allows x (pos 0)) ≡ false
not_open t x (inl none) = is_false _ (λ e. not_both _ (true_both _ _ e).0 (contradiction_none t none (λ v. true)))
not_open t x (inr none) = is_false _ (λ e. not_both _ (true_both _ _ e).1 (none (pos 0)))

pub quotient_none : (t x : Info) → IsContradiction t ⊎ IsContradiction x → IsContradiction (quotient_of t x)
quotient_none t x either = subst (λ (b : Bool). IsContradiction (if b then nothing kinds.Interval else between_quotients t x)) (sym (not_open t x either))
    (closest_none kinds.Interval _ (λ q. is_false _ (λ e. not_both _ (true_both _ _ e).0 (pair_none t x (is_quotient_at_most q) either))))

-- rules with an impossible input give the contradiction
value_of_rules_none : (k : Kind) (rules : List Rule) (xs : List Info) → list_all is_possible xs ≡ false → IsContradiction (value_of_rules k rules xs)
value_of_rules_none k rules xs none = subst (λ (b : Bool). IsContradiction (if b then closest k (rules_allow rules xs) else contradiction k)) (sym none)
    (allows-contradiction k)

-- the value of any other meaning is contradictory if some input is
pub value_none : (output : Slot) (meaning : Meaning) (slots : List Slot) (xs : List Info) → (meaning ≢ meanings.Switch) → AreSlotsOf meaning slots output
    → FitSlots slots xs → (k : ℕ) → k < length xs → IsContradiction (input xs k) → IsContradiction (value_of_meaning output meaning xs)
value_none output meanings.Adder slots xs other are f k l none = hull_none _ (two_none (λ a b. a +ℤ b) _ _ (contradictory_two _ _ slots xs are.0 f k l none))
value_none output meanings.Subtractor slots xs other are f k l none = hull_none _ (two_none (λ a b. a -ℤ b) _ _ (contradictory_two _ _ slots xs are.0 f k l none))
value_none output meanings.Multiplier slots xs other are f k l none = hull_none _ (two_none (λ a b. a *ℤ b) _ _ (contradictory_two _ _ slots xs are.0 f k l none))
value_none output meanings.Squarer slots xs other are f k l none = hull_none _ (one_none (λ a. a *ℤ a) _ (contradictory_one _ slots xs are.0 f k l none))
value_none output meanings.Divider slots xs other are f k l none = quotient_none _ _ (contradictory_two _ _ slots xs are.0 f k l none)
value_none output meanings.AtMost slots xs other are f k l none = truths_none _ (two_none at_most _ _ (contradictory_two _ _ slots xs are.0 f k l none))
value_none output meanings.Equal slots xs other are f k l none = truths_none _ (two_none equality _ _ (contradictory_two _ _ slots xs are.0 f k l none))
value_none output meanings.Inverter slots xs other are f k l none = truths_none _ (one_none negation _ (contradictory_one _ slots xs are.0 f k l none))
value_none output meanings.Conjoiner slots xs other are f k l none = truths_none _ (two_none conjunction _ _ (contradictory_two _ _ slots xs are.0 f k l none))
value_none output meanings.Disjoiner slots xs other are f k l none = truths_none _ (two_none disjunction _ _ (contradictory_two _ _ slots xs are.0 f k l none))
value_none output meanings.Switch slots xs other are f k l none = absurd (other refl)
value_none output meanings.Copy slots xs other are f k l none = contradictory_one _ slots xs are.0 f k l none
value_none output meanings.Point slots xs other are f k l none = hull_none _ (contradiction_none (input xs 0) (contradictory_one _ slots xs are.0 f k l none))
value_none output meanings.Fixed slots xs other are f k l none = closest_none kinds.Exact _ (contradictory_one _ slots xs are.0 f k l none)
value_none output (meanings.Rules rules) slots xs other are f k l none =
    value_of_rules_none (kind_in_slot kinds.Interval output) rules.items xs
    (list_all_at is_possible xs k (nothing kinds.Interval) l (contradiction_none (input xs k) none (λ v. true)))

-- ---- solutions of quotients

-- what both branches pass, and what both allow
if_true : (test a b : Bool) → a ≡ true → b ≡ true → (if test then a else b) ≡ true
if_true true a b p q = p
if_true false a b p q = q

allows_if : (test : Bool) (x y : Info) (v : ℤ) → allows x v ≡ true → allows y v ≡ true → allows (if test then x else y) v ≡ true
allows_if true x y v p q = p
allows_if false x y v p q = q

-- equal numbers are in order
same_le : (a b : ℤ) → a ≡ b → le_z a b ≡ true
same_le a b e = true_le a b (omega (arith, ints))

-- a whole quotient is the true quotient
is_quotient : (q a b : ℤ) → q *ℤ b ≡ a → (is_quotient_at_most q a b ≡ true) × (is_quotient_at_least q a b ≡ true)
is_quotient q a b e =
    let up : le_z a (q *ℤ b) ≡ true = same_le a (q *ℤ b) (sym e) in
    let down : le_z (q *ℤ b) a ≡ true = same_le (q *ℤ b) a e in
    (if_true (lt_z (pos 0) b) _ _ up down, if_true (lt_z (pos 0) b) _ _ down up)

-- a whole quotient in range of possible values is possible
pub quotient_holds : (t x : Info) (q a b : ℤ) → q *ℤ b ≡ a → is_in_interval_range q ≡ true → allows t a ≡ true → allows x b ≡ true → allows (quotient_of t x) q ≡ true
quotient_holds t x q a b e range a_possible b_possible =
    let is : (is_quotient_at_most q a b ≡ true) × (is_quotient_at_least q a b ≡ true) = is_quotient q a b e in
    allows_if (is_possible t && allows x (pos 0)) (nothing kinds.Interval) (between_quotients t x) q (allows-nothing kinds.Interval q ∙ range)
    ((closest_closest _).holds q range (both_true _ _
    (true_some t (λ v. some x (is_quotient_at_most q v)) a a_possible (true_some x (is_quotient_at_most q a) b b_possible is.0))
    (true_some t (λ v. some x (is_quotient_at_least q v)) a a_possible (true_some x (is_quotient_at_least q a) b b_possible is.1))))
