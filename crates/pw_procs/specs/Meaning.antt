-- The table of meanings: of each its inputs, its output, and its value over all values that the
-- inputs leave possible; division too, between the ends that true quotients set.
use Rattle.std.specs.Prelude.{ℤ, pos, Bool, ◌&&◌, ◌*ℤ◌, if◌then◌else◌, ◌≡◌, true, false, not, ◌||◌}
use Rattle.std.specs.Prelude.{◌+ℤ◌, ◌-ℤ◌, List, [], ◌∷◌, map}
use Rattle.std.specs.Int.Signed.{le_z, lt_z}
use Rattle.pw_info.specs.declared.info.Info.{Info}
use Rattle.pw_info.specs.Information.{allows, closest, nothing, kind_of, contradiction}
use Rattle.pw_procs.specs.Values.{some, is_possible, input, image_of_one, image_of_two, hull_of}
use Rattle.pw_procs.specs.Values.{truths_of, truth, is_true, bool}
use Rattle.std.specs.Ordering.{int_eq}
use Rattle.pw_info.specs.declared.kind.Kind.{Kind}
use Rattle.pw_procs.specs.declared.signature.Slot.{Slot}
use Rattle.pw_procs.specs.declared.meaning.Meaning.{Meaning}
use Rattle.pw_procs.specs.Slots.{kind_in_slot, FitSlots}
use Rattle.pw_procs.specs.Rules.{value_of_rules, AreRules}
use Rattle.pw_info.specs.declared.kind.Kind.TheVariants as kinds
use Rattle.pw_procs.specs.declared.signature.Slot.TheVariants as slots
use Rattle.pw_procs.specs.declared.meaning.Meaning.TheVariants as meanings

-- the true quotient of t by x, which is not 0, is at most q
abbrev pub is_quotient_at_most : ℤ → ℤ → ℤ → Bool
is_quotient_at_most q t x = if lt_z (pos 0) x then le_z t (q *ℤ x) else le_z (q *ℤ x) t

-- the true quotient of t by x, which is not 0, is at least q
abbrev pub is_quotient_at_least : ℤ → ℤ → ℤ → Bool
is_quotient_at_least q t x = if lt_z (pos 0) x then le_z (q *ℤ x) t else le_z t (q *ℤ x)

-- the whole numbers at or above some true quotient and at or below some true quotient, over all
-- possible values: from the least quotient rounded up to the greatest rounded down
abbrev pub between_quotients : Info → Info → Info
between_quotients t x = closest kinds.Interval (λ q.
    some t (λ a. some x (λ b. is_quotient_at_most q a b))
    && some t (λ a. some x (λ b. is_quotient_at_least q a b)))

-- nothing if the divisor may be 0
abbrev pub quotient_of : Info → Info → Info
quotient_of t x = if is_possible t && allows x (pos 0) then nothing kinds.Interval else
    between_quotients t x

-- the hull of all sums
abbrev pub sum_of : Info → Info → Info
sum_of x y = hull_of (image_of_two (λ a b. a +ℤ b) x y)

-- the hull of all differences
abbrev pub difference_of : Info → Info → Info
difference_of t x = hull_of (image_of_two (λ a b. a -ℤ b) t x)

-- the hull of all products
abbrev pub product_of : Info → Info → Info
product_of x y = hull_of (image_of_two (λ a b. a *ℤ b) x y)

-- the hull of all squares
abbrev pub square_of : Info → Info
square_of x = hull_of (image_of_one (λ a. a *ℤ a) x)

-- all results of `is the first at most the second?`
abbrev pub at_most_of : Info → Info → Info
at_most_of x y = truths_of (image_of_two (λ a b. truth (le_z a b)) x y)

-- all results of `are the two equal?`
abbrev pub equality_of : Info → Info → Info
equality_of x y = truths_of (image_of_two (λ a b. truth (int_eq a b)) x y)

-- all results of `not`
abbrev pub negation_of : Info → Info
negation_of p = truths_of (image_of_one (λ a. truth (not (is_true a))) p)

-- all results of `and`
abbrev pub conjunction_of : Info → Info → Info
conjunction_of p q = truths_of (image_of_two (λ a b. truth (is_true a && is_true b)) p q)

-- all results of `or`
abbrev pub disjunction_of : Info → Info → Info
disjunction_of p q = truths_of (image_of_two (λ a b. truth (is_true a || is_true b)) p q)

-- the other input if the truth p is exactly true; nothing if p may be false, for any other input
abbrev pub switched : Info → Info → Info
switched p x =
    if not (is_possible p) then contradiction (kind_of x)
    else if allows p (truth false) then nothing (kind_of x)
    else x

-- the interval of an exact number: the hull of the possible numbers, so nothing for any number, and
-- no number for one out of range
abbrev pub point_of : Info → Info
point_of k = hull_of (some k)

-- the exact number of an interval: the number if exactly one is possible
abbrev pub fixed_of : Info → Info
fixed_of x = closest kinds.Exact (allows x)

-- the meaning is given by rules: it is not in the table
abbrev pub is_given_by_rules : Meaning → Bool
is_given_by_rules (meanings.Rules rules) = true
is_given_by_rules _ = false

-- the slots of the inputs of a meaning of the table
abbrev pub inputs_of_meaning : Meaning → List Slot
inputs_of_meaning meanings.Adder = slots.Fixed kinds.Interval ∷ slots.Fixed kinds.Interval ∷ []
inputs_of_meaning meanings.Subtractor = slots.Fixed kinds.Interval ∷ slots.Fixed kinds.Interval ∷ []
inputs_of_meaning meanings.Multiplier = slots.Fixed kinds.Interval ∷ slots.Fixed kinds.Interval ∷ []
inputs_of_meaning meanings.Squarer = slots.Fixed kinds.Interval ∷ []
inputs_of_meaning meanings.Divider = slots.Fixed kinds.Interval ∷ slots.Fixed kinds.Interval ∷ []
inputs_of_meaning meanings.AtMost = slots.Fixed kinds.Interval ∷ slots.Fixed kinds.Interval ∷ []
inputs_of_meaning meanings.Equal = slots.Same ∷ slots.Same ∷ []
inputs_of_meaning meanings.Inverter = slots.Fixed bool ∷ []
inputs_of_meaning meanings.Conjoiner = slots.Fixed bool ∷ slots.Fixed bool ∷ []
inputs_of_meaning meanings.Disjoiner = slots.Fixed bool ∷ slots.Fixed bool ∷ []
inputs_of_meaning meanings.Switch = slots.Fixed bool ∷ slots.Same ∷ []
inputs_of_meaning meanings.Copy = slots.Same ∷ []
inputs_of_meaning meanings.Point = slots.Fixed kinds.Exact ∷ []
inputs_of_meaning meanings.Fixed = slots.Fixed kinds.Interval ∷ []
inputs_of_meaning (meanings.Rules rules) = []

-- the slot of its output
abbrev pub output_of_meaning : Meaning → Slot
output_of_meaning meanings.AtMost = slots.Fixed bool
output_of_meaning meanings.Equal = slots.Fixed bool
output_of_meaning meanings.Inverter = slots.Fixed bool
output_of_meaning meanings.Conjoiner = slots.Fixed bool
output_of_meaning meanings.Disjoiner = slots.Fixed bool
output_of_meaning meanings.Switch = slots.Same
output_of_meaning meanings.Copy = slots.Same
output_of_meaning meanings.Fixed = slots.Fixed kinds.Exact
output_of_meaning _ = slots.Fixed kinds.Interval

-- slots are a meaning's: for a meaning of the table those of the table, and for rules any fixed
-- kinds that the rules have
abbrev pub AreSlotsOf : Meaning → List Slot → Slot → Type 0
AreSlotsOf (meanings.Rules rules) inputs output =
    (kinds : List Kind) × (kind : Kind) × (inputs ≡ map slots.Fixed kinds)
    × (output ≡ slots.Fixed kind) × AreRules kinds kind rules.items
AreSlotsOf meaning inputs output = (inputs ≡ inputs_of_meaning meaning)
    × (output ≡ output_of_meaning meaning)

-- the value of a meaning whose output has this slot: the hull of all sums, of all differences, of
-- all products, of all squares, of all quotients; everything that `at most`, `equal`, `not`, `and`
-- and `or` give; what passes a switch; the input itself; the interval of an exact number; the exact
-- number of an interval that allows just one. For rules the slot is of a fixed kind.
abbrev pub value_of_meaning : Slot → Meaning → List Info → Info
value_of_meaning output meanings.Adder inputs =
    hull_of (image_of_two (λ a b. a +ℤ b) (input inputs 0) (input inputs 1))
value_of_meaning output meanings.Subtractor inputs =
    hull_of (image_of_two (λ a b. a -ℤ b) (input inputs 0) (input inputs 1))
value_of_meaning output meanings.Multiplier inputs =
    hull_of (image_of_two (λ a b. a *ℤ b) (input inputs 0) (input inputs 1))
value_of_meaning output meanings.Squarer inputs =
    hull_of (image_of_one (λ a. a *ℤ a) (input inputs 0))
value_of_meaning output meanings.Divider inputs = quotient_of (input inputs 0) (input inputs 1)
value_of_meaning output meanings.AtMost inputs =
    truths_of (image_of_two (λ a b. truth (le_z a b)) (input inputs 0) (input inputs 1))
value_of_meaning output meanings.Equal inputs =
    truths_of (image_of_two (λ a b. truth (int_eq a b)) (input inputs 0) (input inputs 1))
value_of_meaning output meanings.Inverter inputs =
    truths_of (image_of_one (λ a. truth (not (is_true a))) (input inputs 0))
value_of_meaning output meanings.Conjoiner inputs =
    truths_of (image_of_two (λ a b. truth (is_true a
    && is_true b)) (input inputs 0) (input inputs 1))
value_of_meaning output meanings.Disjoiner inputs =
    truths_of (image_of_two (λ a b. truth (is_true a
    || is_true b)) (input inputs 0) (input inputs 1))
value_of_meaning output meanings.Switch inputs = switched (input inputs 0) (input inputs 1)
value_of_meaning output meanings.Copy inputs = input inputs 0
value_of_meaning output meanings.Point inputs = hull_of (some (input inputs 0))
value_of_meaning output meanings.Fixed inputs = closest kinds.Exact (allows (input inputs 0))
value_of_meaning output (meanings.Rules rules) inputs =
    value_of_rules (kind_in_slot kinds.Interval output) rules.items inputs

-- the value of a meaning of the table, on inputs that fit it
abbrev pub IsValueOfTable : Meaning → List Info → Info → Type 0
IsValueOfTable meaning inputs value =
    FitSlots (inputs_of_meaning meaning) inputs → value
    ≡ value_of_meaning (output_of_meaning meaning) meaning inputs
