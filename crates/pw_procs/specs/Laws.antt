-- The laws of this crate that are longer than a line: each is the contract of a function in
-- `src/laws.rt`.
use Rattle.std.specs.Prelude.{◌≡◌, ◌≢◌, ◌↔◌, ℕ, ℤ, Bool, true, List, [], ◌∷◌, ◌++◌}
use Rattle.pw_info.specs.declared.kind.Kind.{Kind}
use Rattle.pw_info.specs.declared.info.Info.{Info}
use Rattle.pw_info.specs.Information.{IsContradiction}
use Rattle.pw_procs.specs.declared.signature.Slot.{Slot}
use Rattle.pw_procs.specs.declared.signature.Signature.{Signature}
use Rattle.pw_procs.specs.declared.registry.RegistryFault.{RegistryFault}
use Rattle.pw_procs.specs.declared.registry.RegistryFault.TheVariants.{Memory}
use Rattle.pw_procs.specs.declared.meaning.Meaning.{Meaning}
use Rattle.pw_procs.specs.declared.meaning.Meaning.TheVariants.{Switch}
use Rattle.pw_procs.specs.Signature.{Accepts, AcceptsApart}
use Rattle.pw_procs.specs.Procedure.{Procedure, GivesWhatItAccepts}
use Rattle.pw_procs.specs.Registering.{AreRegistered, IsRegistryFault}
use Rattle.pw_procs.specs.Values.{NumberSet, IsSetOf, IsImageOfOne, IsImageOfTwo, IsHull}
use Rattle.pw_procs.specs.Values.{image_of_one, image_of_two, hull_of}
use Rattle.pw_procs.specs.Values.{input}
use Rattle.pw_procs.specs.Meaning.{AreSlotsOf, value_of_meaning}
use Rattle.pw_procs.specs.MeaningLaws.{IsOfSlotKind, IsContradictedByInputs}

-- the set of what an operation gives on one input is that set
abbrev pub ImageOfOneIsASet : Type 0
ImageOfOneIsASet =
    (op : ℤ → ℤ) (x : Info) →
    IsSetOf (IsImageOfOne op x) (image_of_one op x)

-- the same of an operation on two inputs
abbrev pub ImageOfTwoIsASet : Type 0
ImageOfTwoIsASet =
    (op : ℤ → ℤ → ℤ) (x y : Info) →
    IsSetOf (IsImageOfTwo op x y) (image_of_two op x y)

-- the hull of a set of numbers is the closest interval to it
abbrev pub HullOfASet : Type 0
HullOfASet =
    (numbers : ℤ → Bool) (set : NumberSet) →
    IsSetOf (λ z. numbers z ≡ true) set → IsHull (λ z. numbers z ≡ true) (hull_of set)

-- so it is of what an operation gives on one input
abbrev pub HullOfOne : Type 0
HullOfOne =
    (op : ℤ → ℤ) (x : Info) →
    IsHull (IsImageOfOne op x) (hull_of (image_of_one op x))

-- and on two inputs
abbrev pub HullOfTwo : Type 0
HullOfTwo =
    (op : ℤ → ℤ → ℤ) (x y : Info) →
    IsHull (IsImageOfTwo op x y) (hull_of (image_of_two op x y))

-- the value of a meaning is of the kind of its output, where the inputs fit
abbrev pub ValuesHaveTheOutputKind : Type 0
ValuesHaveTheOutputKind =
    (output : Slot) (meaning : Meaning) (slots : List Slot) →
    AreSlotsOf meaning slots output → IsOfSlotKind output meaning slots

-- kinds fit a signature where the inputs fit and the output fits
abbrev pub KindsFitApart : Type 0
KindsFitApart =
    (signature : Signature) (xs : List Kind) (k : Kind) →
    Accepts signature (xs ++ k ∷ []) ↔ AcceptsApart signature xs k

-- a procedure gives values of the kind of its output on inputs that it accepts
abbrev pub AcceptedKindsGiveTheOutputKind : Type 0
AcceptedKindsGiveTheOutputKind =
    (procedure : Procedure) (xs : List Info) (k : Kind) →
    GivesWhatItAccepts procedure xs k

-- a list of good names is refused only when memory runs out
abbrev pub GoodNamesAreRefusedForMemoryAlone : Type 0
GoodNamesAreRefusedForMemoryAlone =
    (names : List (List ℕ)) (fault : RegistryFault) →
    AreRegistered names → IsRegistryFault names fault → fault ≡ Memory

-- a contradictory input makes the value of a meaning contradictory, but for a switch
abbrev pub ContradictoryInputsContradict : Type 0
ContradictoryInputsContradict =
    (output : Slot) (meaning : Meaning) (slots : List Slot) → (meaning ≢ Switch) →
    AreSlotsOf meaning slots output → IsContradictedByInputs output meaning slots

-- a contradictory control makes the value of a switch contradictory
abbrev pub ContradictoryControlContradicts : Type 0
ContradictoryControlContradicts =
    (output : Slot) (xs : List Info) →
    IsContradiction (input xs 0) → IsContradiction (value_of_meaning output Switch xs)
