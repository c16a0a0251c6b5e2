-- Stored procedures as contracts see them: everything but their bodies, about which nothing need be
-- known.
use Rattle.std.specs.Prelude.{◌≡◌, ℕ, List, [], ◌∷◌, ◌++◌, map}
use Rattle.std.specs.String.{string_bytes}
use Rattle.pw_info.specs.declared.kind.Kind.{Kind}
use Rattle.pw_info.specs.declared.info.Info.{Info}
use Rattle.pw_info.specs.Information.{kind_of}
use Rattle.pw_procs.specs.declared.signature.Slot.{Slot}
use Rattle.pw_procs.specs.declared.signature.Signature.{Signature}
use Rattle.pw_procs.specs.declared.meaning.Meaning.{Meaning}
use Rattle.pw_procs.specs.declared.stored.Stored.{Stored}
use Rattle.pw_procs.specs.Meaning.{inputs_of_meaning, output_of_meaning, value_of_meaning}
use Rattle.pw_procs.specs.Signature.{input_slots_of, output_slot_of, FitSignature, Accepts}
use Rattle.pw_procs.specs.Signature.{IsSignatureOf}

-- a name, and a meaning with a signature of it
pub record Procedure : Type 0 where
  pub name : List ℕ
  pub signature : Signature
  pub meaning : Meaning
  pub slots : ∥ IsSignatureOf meaning signature ∥₁

-- a stored procedure, without its body
abbrev pub procedure_of : {X : Type 0} {F : X → Type 0} {C : _} → Stored X F C → Procedure
procedure_of stored = record {
  name = string_bytes stored.name;
  signature =
      stored.signature;
  meaning = stored.meaning;
  slots = stored.slots;
}

-- the same for each of a list
abbrev pub procedures_of : {X : Type 0} {F : X → Type 0} {C : _} → List (Stored X F C) →
    List Procedure
procedures_of list = map procedure_of list

-- the names of procedures, in order
abbrev pub names_of : List Procedure → List (List ℕ)
names_of procedures = map (λ procedure. procedure.name) procedures

-- the names of stored procedures, in order
abbrev pub stored_names : {X : Type 0} {F : X → Type 0} {C : _} → List (Stored X F C) →
    List (List ℕ)
stored_names list = names_of (procedures_of list)

-- the value of a procedure on inputs that fit: that of its meaning, whose output has the slot of
-- its signature
abbrev pub value_by : Procedure → List Info → Info
value_by procedure inputs = value_of_meaning procedure.signature.output procedure.meaning inputs

-- if a procedure accepts the kinds of the inputs and then a kind, the inputs fit, and its value is
-- of that kind
abbrev pub GivesWhatItAccepts : Procedure → List Info → Kind → Type 0
GivesWhatItAccepts procedure inputs output = Accepts procedure.signature (map kind_of inputs
    ++ output ∷ [])
    → FitSignature procedure.signature inputs × (kind_of (value_by procedure inputs) ≡ output)

-- a list has gained, at its end, a procedure of this name and meaning with these slots
pub record IsAdded {X : Type 0} {F : X → Type 0} {C : _} (old new : List (Stored X F C))
    (name : List ℕ)
    (inputs : List Slot) (output : Slot) (meaning : Meaning) : Type 0 where
  pub added : Stored X F C
  pub list : new ≡ old ++ added ∷ []
  pub name_is : (procedure_of added).name ≡ name
  pub inputs_are : input_slots_of (procedure_of added).signature ≡ inputs
  pub output_is : output_slot_of (procedure_of added).signature ≡ output
  pub meaning_is : (procedure_of added).meaning ≡ meaning

-- the same for a meaning of the table
abbrev pub IsTableAdded : {X : Type 0} {F : X → Type 0} {C : _} → (old new : List (Stored X F C)) →
    List ℕ → Meaning → Type 0
IsTableAdded old new name meaning = IsAdded old new name (inputs_of_meaning meaning)
    (output_of_meaning meaning) meaning

-- the meanings of procedures with their names, in order
abbrev pub named_meanings : List Procedure → List (List ℕ × Meaning)
named_meanings procedures = map (λ procedure. (procedure.name, procedure.meaning)) procedures
