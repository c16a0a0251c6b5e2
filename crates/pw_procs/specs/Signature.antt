-- What a procedure takes and gives.
use Rattle.std.specs.Prelude.{◌≡◌, List, [], ◌∷◌, ◌++◌, take, map}
use Rattle.pw_info.specs.declared.kind.Kind.{Kind}
use Rattle.pw_info.specs.declared.info.Info.{Info}
use Rattle.pw_info.specs.Information.{kind_of}
use Rattle.pw_procs.specs.declared.signature.Slot.{Slot}
use Rattle.pw_procs.specs.declared.signature.Signature.{Signature}
use Rattle.pw_procs.specs.declared.meaning.Meaning.{Meaning}
use Rattle.pw_procs.specs.Slots.{kind_in_slot, FitSlots}
use Rattle.pw_procs.specs.Meaning as meanings

-- the slots of the inputs, in order
abbrev pub input_slots_of : Signature → List Slot
input_slots_of signature = take signature.count signature.slots

-- the slot of the output
abbrev pub output_slot_of : Signature → Slot
output_slot_of signature = signature.output

-- informations fit the inputs
abbrev pub FitSignature : Signature → List Info → Type 0
FitSignature signature inputs = FitSlots (input_slots_of signature) inputs

-- kinds fit the inputs and the output, which is last: they are those in the slots, for some kind of
-- the slots that take any
abbrev pub Accepts : Signature → List Kind → Type 0
Accepts signature kinds = (same : Kind) × (kinds
    ≡ map (kind_in_slot same) (input_slots_of signature ++ signature.output ∷ []))

-- the same with the inputs and the output apart
abbrev pub AcceptsApart : Signature → List Kind → Kind → Type 0
AcceptsApart signature inputs output =
    (same : Kind) × (inputs ≡ map (kind_in_slot same) (input_slots_of signature))
    × (output ≡ kind_in_slot same (output_slot_of signature))

-- the signature is one of the meaning
abbrev pub IsSignatureOf : Meaning → Signature → Type 0
IsSignatureOf meaning signature = meanings.AreSlotsOf meaning (input_slots_of signature)
    signature.output

-- the value of a meaning under a signature of it
abbrev pub signature_value : Signature → Meaning → List Info → Info
signature_value signature meaning inputs = meanings.value_of_meaning (output_slot_of signature)
    meaning inputs

-- the values of a meaning under a signature are of the kind of its output
abbrev pub IsOfOutputKind : Signature → Meaning → Type 0
IsOfOutputKind signature meaning = (inputs : List Info) (fit : FitSignature signature inputs)
    → kind_of (signature_value signature meaning inputs)
    ≡ kind_in_slot fit.0 (output_slot_of signature)

-- the value of a meaning under a signature of it, on inputs that fit
abbrev pub IsValueUnder : Signature → Meaning → List Info → Info → Type 0
IsValueUnder signature meaning inputs value = FitSignature signature inputs → value
    ≡ signature_value signature meaning inputs
