-- What a procedure takes and gives: the kinds of its inputs and of its output, one by one.
use Rattle.std.specs.Prelude.{◌≡◌, ◌≤◌, ℕ, List, map, length, Bool, true, false}
use Rattle.std.specs.List.{list_any}
use Rattle.pw_info.specs.declared.kind.Kind.{Kind}
use Rattle.pw_info.specs.declared.info.Info.{Info}
use Rattle.pw_info.specs.Information.{kind_of}
use Rattle.pw_procs.specs.declared.signature.Slot.{Slot}
use Rattle.pw_procs.specs.declared.signature.Slot.TheVariants.{Fixed, Same}

-- the kind of a slot, where `same` is the kind of the slots that take any kind
abbrev pub kind_in_slot : Kind → Slot → Kind
kind_in_slot same (Fixed kind) = kind
kind_in_slot same Same = same

-- these are the kinds in slots, one for each, where `same` is the kind of the slots that take any
-- kind
abbrev pub AreKindsIn : List Slot → List Kind → Kind → Type 0
AreKindsIn slots kinds same = kinds ≡ map (kind_in_slot same) slots

-- kinds fit slots: they are the kinds in them, for some kind of the slots that take any kind
abbrev pub KindsFit : List Slot → List Kind → Type 0
KindsFit slots kinds = (same : Kind) × AreKindsIn slots kinds same

-- informations fit slots: their kinds do
abbrev pub FitSlots : List Slot → List Info → Type 0
FitSlots slots inputs = KindsFit slots (map kind_of inputs)

-- the slot takes information of any kind
abbrev pub is_same : Slot → Bool
is_same (Fixed kind) = false
is_same Same = true

-- the greatest number of inputs of a procedure
abbrev pub most_inputs : ℕ
most_inputs = 8

-- the slots that a procedure may have: one to eight inputs; an output of any kind only if an input
-- is of any kind
pub record AreSlots (inputs : List Slot) (output : Slot) : Type 0 where
  pub some : 1 ≤ length inputs
  pub most : length inputs ≤ most_inputs
  pub known : output ≡ Same → list_any is_same inputs ≡ true
