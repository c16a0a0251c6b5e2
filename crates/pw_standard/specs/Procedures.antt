-- The standard procedures: their names, and what each means.
use Rattle.std.specs.Prelude.{◌≡◌, ℕ, List, [], ◌∷◌, codes, true}
use Rattle.pw_info.specs.declared.kind.SetKind.{SetKind}
use Rattle.pw_info.specs.declared.kind.Kind.TheVariants as kinds
use Rattle.pw_procs.specs.declared.signature.Slot.TheVariants as slots
use Rattle.pw_procs.specs.declared.meaning.Meaning.{Meaning}
use Rattle.pw_procs.specs.declared.meaning.Meaning.TheVariants as meanings
use Rattle.pw_procs.specs.Meaning.{is_given_by_rules}
use Rattle.pw_procs.specs.Signature.{input_slots_of, output_slot_of}
use Rattle.pw_procs.specs.Procedure.{Procedure, named_meanings}

-- the meanings of the table, each under its name
abbrev pub named_table : List (List ℕ × Meaning)
named_table =
    (codes "adder", meanings.Adder) ∷ (codes "subtractor", meanings.Subtractor) ∷
    (codes "multiplier", meanings.Multiplier)
    ∷ (codes "squarer", meanings.Squarer) ∷ (codes "divider", meanings.Divider) ∷
    (codes "at_most", meanings.AtMost)
    ∷ (codes "equal", meanings.Equal) ∷ (codes "inverter", meanings.Inverter) ∷
    (codes "conjoiner", meanings.Conjoiner)
    ∷ (codes "disjoiner", meanings.Disjoiner) ∷ (codes "switch", meanings.Switch) ∷
    (codes "copy", meanings.Copy)
    ∷ (codes "point", meanings.Point) ∷ (codes "fixed", meanings.Fixed) ∷ []

-- a procedure named `sign`, given by rules, from an interval to a member of set 1, the three signs
pub record IsSign (procedure : Procedure) : Type 0 where
  pub name : procedure.name ≡ codes "sign"
  pub rules : is_given_by_rules procedure.meaning ≡ true
  pub input : input_slots_of procedure.signature ≡ slots.Fixed kinds.Interval ∷ []
  pub output : (set : SetKind) × (set.number ≡ 1) × (set.size ≡ 3)
      × (output_slot_of procedure.signature ≡ slots.Fixed (kinds.Members set))

-- the standard procedures: `sign`, and the meanings of the table under their names
pub record AreStandard (procedures : List Procedure) : Type 0 where
  pub sign : Procedure
  pub others : List Procedure
  pub are : procedures ≡ sign ∷ others
  pub table : named_meanings others ≡ named_table
  pub is_sign : IsSign sign
