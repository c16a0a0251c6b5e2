-- The laws of meanings, stated for one meaning.
use Rattle.std.specs.Prelude.{◌≡◌, ℕ, ◌<◌, ℤ, true, false, List, [], ◌∷◌, length, map}
use Rattle.std.specs.List.{AllZip}
use Rattle.pw_kinds.specs.Ranges.{is_in_interval_range}
use Rattle.pw_info.specs.declared.info.Info.{Info}
use Rattle.pw_info.specs.Information.{allows, kind_of, nothing, Implies, IsContradiction}
use Rattle.pw_procs.specs.declared.rule.Rule.{Rule}
use Rattle.pw_procs.specs.declared.signature.Slot.{Slot}
use Rattle.pw_procs.specs.declared.meaning.Meaning.{Meaning}
use Rattle.pw_procs.specs.Slots.{FitSlots, kind_in_slot}
use Rattle.pw_procs.specs.Values.{input, is_possible, truth}
use Rattle.pw_procs.specs.Rules.{value_of_rules}
use Rattle.pw_procs.specs.Meaning.{value_of_meaning, switched}

-- on inputs that fit these slots the value is of the kind of the output
abbrev pub IsOfSlotKind : Slot → Meaning → List Slot → Type 0
IsOfSlotKind output meaning slots = (xs : List Info) (fit : FitSlots slots xs) →
    kind_of (value_of_meaning output meaning xs) ≡ kind_in_slot fit.0 output

-- more informed inputs, of the same kinds, give a value that is at least as informed
abbrev pub IsMonotone : Slot → Meaning → Type 0
IsMonotone output meaning = (ys xs : List Info) → map kind_of ys ≡ map kind_of xs →
    AllZip Implies ys xs
    → Implies (value_of_meaning output meaning ys) (value_of_meaning output meaning xs)

-- on inputs that fit these slots the value is contradictory if some input is
abbrev pub IsContradictedByInputs : Slot → Meaning → List Slot → Type 0
IsContradictedByInputs output meaning slots = (xs : List Info) → FitSlots slots xs → (k : ℕ) →
    k < length xs
    → IsContradiction (input xs k) → IsContradiction (value_of_meaning output meaning xs)

-- a number in range that solves a relation with possible values of the inputs is possible
abbrev pub KeepsSolutionsOfOne : Meaning → (ℤ → ℤ → Type 0) → Type 0
KeepsSolutionsOfOne meaning solves = (output : Slot) (xs : List Info) (a z : ℤ) → solves a z →
    is_in_interval_range z ≡ true
    → allows (input xs 0) a ≡ true → allows (value_of_meaning output meaning xs) z ≡ true

abbrev pub KeepsSolutionsOfTwo : Meaning → (ℤ → ℤ → ℤ → Type 0) → Type 0
KeepsSolutionsOfTwo meaning solves = (output : Slot) (xs : List Info) (a b z : ℤ) → solves a b z →
    is_in_interval_range z ≡ true
    → allows (input xs 0) a ≡ true → allows (input xs 1) b ≡ true →
    allows (value_of_meaning output meaning xs) z ≡ true

-- a switch: if its truth is exactly true, its value is the other input, and if the truth may be
-- false, nothing
abbrev pub SwitchPasses : Info → Info → Type 0
SwitchPasses p x = allows p (truth true) ≡ true → allows p (truth false) ≡ false → switched p x ≡ x

abbrev pub SwitchWaits : Info → Info → Type 0
SwitchWaits p x = allows p (truth false) ≡ true → switched p x ≡ nothing (kind_of x)

-- one rule of one input: if its guard includes the input, the value is its result, and if the input
-- may be outside the guard, nothing
abbrev pub RuleApplies : Rule → Info → Info → Type 0
RuleApplies rule guard x = rule.guards.items ≡ guard ∷ [] → is_possible x ≡ true → Implies x guard
    → value_of_rules (kind_of rule.result) (rule ∷ []) (x ∷ []) ≡ rule.result

abbrev pub RuleWaits : Rule → Info → Info → ℤ → Type 0
RuleWaits rule guard x v = rule.guards.items ≡ guard ∷ [] → allows x v ≡ true → allows guard v
    ≡ false
    → value_of_rules (kind_of rule.result) (rule ∷ []) (x ∷ []) ≡ nothing (kind_of rule.result)
