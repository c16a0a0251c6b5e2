-- The entries of the standard procedures, and the text of the table.
use Rattle.std.proofs.Common.{◌≡◌, ℕ, ◌+◌, List, [], ◌∷◌, ◌++◌, map, false, refl, sym, ◌∙◌, ap, codes, subst}
use Rattle.std.specs.Prelude.{All, slice_index_or}
use Rattle.std.specs.List.{flat_map}
use Rattle.std.proofs.lemmas.List.Elements.{All-from_recursion}
use Rattle.std.proofs.Math.Logic.{∥∥₁_elim}
use Rattle.std.specs.Coded.{Coded-set, coded_list}
use Rattle.pw_info.specs.declared.kind.SetKind.{SetKind}
use Rattle.pw_info.specs.declared.kind.Kind.TheVariants as kinds
use Rattle.pw_procs.specs.declared.signature.Slot.{Slot}
use Rattle.pw_procs.specs.declared.signature.Slot.TheVariants as slots
use Rattle.pw_procs.specs.contracts.signature.Slot as slot
use Rattle.pw_procs.specs.declared.meaning.Meaning.{Meaning}
use Rattle.pw_procs.specs.declared.meaning.Meaning.TheVariants as meanings
use Rattle.pw_procs.specs.Meaning.{inputs_of_meaning, output_of_meaning, is_given_by_rules, AreSlotsOf}
use Rattle.pw_procs.specs.Signature.{input_slots_of, output_slot_of}
use Rattle.pw_procs.specs.Procedure.{Procedure, named_meanings}
use Rattle.pw_decl.specs.BuiltIn.{HasPrelude}
use Rattle.pw_decl.specs.Declaration.{Declared, built_in_kind_names}
use Rattle.pw_standard.specs.Procedures.{named_table, AreStandard, IsSign}
use Rattle.pw_standard.specs.Table.{Entry, entry_of, entries_of, text_of_slot, text_of_entries, notes, text_of_compound_row, compound_rows, text_of_table, IsBuiltInRow}

-- the entry of a meaning of the table under a name
abbrev pub entry_by : List ℕ × Meaning → Entry
entry_by (name, meaning) = record { name = name; inputs = map text_of_slot (inputs_of_meaning meaning); output = text_of_slot (output_of_meaning meaning) }

-- the slots of a meaning that is in the table
table_inputs : (meaning : Meaning) (inputs : List Slot) (output : Slot) → is_given_by_rules meaning ≡ false → AreSlotsOf meaning inputs output
    → inputs ≡ inputs_of_meaning meaning
table_inputs meanings.Adder inputs output table are = are.0
table_inputs meanings.Subtractor inputs output table are = are.0
table_inputs meanings.Multiplier inputs output table are = are.0
table_inputs meanings.Squarer inputs output table are = are.0
table_inputs meanings.Divider inputs output table are = are.0
table_inputs meanings.AtMost inputs output table are = are.0
table_inputs meanings.Equal inputs output table are = are.0
table_inputs meanings.Inverter inputs output table are = are.0
table_inputs meanings.Conjoiner inputs output table are = are.0
table_inputs meanings.Disjoiner inputs output table are = are.0
table_inputs meanings.Switch inputs output table are = are.0
table_inputs meanings.Copy inputs output table are = are.0
table_inputs meanings.Point inputs output table are = are.0
table_inputs meanings.Fixed inputs output table are = are.0
table_inputs (meanings.Rules rules) inputs output table are = absurd (cc)

table_output : (meaning : Meaning) (inputs : List Slot) (output : Slot) → is_given_by_rules meaning ≡ false → AreSlotsOf meaning inputs output
    → output ≡ output_of_meaning meaning
table_output meanings.Adder inputs output table are = are.1
table_output meanings.Subtractor inputs output table are = are.1
table_output meanings.Multiplier inputs output table are = are.1
table_output meanings.Squarer inputs output table are = are.1
table_output meanings.Divider inputs output table are = are.1
table_output meanings.AtMost inputs output table are = are.1
table_output meanings.Equal inputs output table are = are.1
table_output meanings.Inverter inputs output table are = are.1
table_output meanings.Conjoiner inputs output table are = are.1
table_output meanings.Disjoiner inputs output table are = are.1
table_output meanings.Switch inputs output table are = are.1
table_output meanings.Copy inputs output table are = are.1
table_output meanings.Point inputs output table are = are.1
table_output meanings.Fixed inputs output table are = are.1
table_output (meanings.Rules rules) inputs output table are = absurd (cc)

-- a procedure with a meaning of the table has the slots of that meaning
entry_is : (procedure : Procedure) → is_given_by_rules procedure.meaning ≡ false → entry_of procedure ≡ entry_by (procedure.name, procedure.meaning)
entry_is procedure table =
    let inputs : input_slots_of procedure.signature ≡ inputs_of_meaning procedure.meaning =
    ∥∥₁_elim procedure.slots (Coded-set (coded_list slot.the_row.coded) _ _)
    (λ are. table_inputs procedure.meaning (input_slots_of procedure.signature) (output_slot_of procedure.signature) table are) in
    let output : output_slot_of procedure.signature ≡ output_of_meaning procedure.meaning =
    ∥∥₁_elim procedure.slots (Coded-set slot.the_row.coded _ _)
    (λ are. table_output procedure.meaning (input_slots_of procedure.signature) (output_slot_of procedure.signature) table are) in
    rw (inputs, output) refl

abbrev AreOfTable : List (List ℕ × Meaning) → Type 0
AreOfTable [] = Unit {0}
AreOfTable (known ∷ more) = (is_given_by_rules known.1 ≡ false) × AreOfTable more

entries_are : (procedures : List Procedure) → AreOfTable (named_meanings procedures) → map entry_of procedures ≡ map entry_by (named_meanings procedures)
entries_are [] table = refl
entries_are (procedure ∷ procedures) (first, rest) =
    ap (λ entry. entry ∷ map entry_of procedures) (entry_is procedure first)
    ∙ ap (λ entries. entry_by (procedure.name, procedure.meaning) ∷ entries) (entries_are procedures rest)

table_is : AreOfTable named_table
table_is = (refl, (refl, (refl, (refl, (refl, (refl, (refl, (refl, (refl, (refl, (refl, (refl, (refl, (refl, tt))))))))))))))

others_are : (others : List Procedure) → named_meanings others ≡ named_table → map entry_of others ≡ map entry_by named_table
others_are others table = entries_are others (subst AreOfTable (sym table) table_is) ∙ ap (map entry_by) table

-- the entry of `sign`
abbrev sign_entry : Entry
sign_entry = record { name = codes "sign"; inputs = codes "interval" ∷ []; output = codes "sign" }

sign_output : (sign : Procedure) (set : SetKind) → set.number ≡ 1 → output_slot_of sign.signature ≡ slots.Fixed (kinds.Members set) →
    text_of_slot (output_slot_of sign.signature) ≡ codes "sign"
sign_output sign set one is = ap text_of_slot is ∙ ap (λ number. slice_index_or built_in_kind_names (number + 2) []) one

sign_is : (sign : Procedure) → IsSign sign → entry_of sign ≡ sign_entry
sign_is sign is =
    let output = sign_output sign is.output.0 is.output.1 is.output.3 in
    rw (is.name, is.input, output) refl

-- the entries of the standard procedures
entries_known : (procedures : List Procedure) → AreStandard procedures → entries_of procedures ≡ map entry_by named_table ++ sign_entry ∷ []
entries_known procedures standard =
    ap entries_of standard.are
    ∙ ap (λ others. others ++ entry_of standard.sign ∷ []) (others_are standard.others standard.table)
    ∙ ap (λ sign. map entry_by named_table ++ sign ∷ []) (sign_is standard.sign standard.is_sign)

-- the table of these entries
abbrev pub known_text : List ℕ
known_text = text_of_entries notes (map entry_by named_table ++ sign_entry ∷ []) ++ flat_map text_of_compound_row compound_rows

pub table_text : (procedures : List Procedure) → AreStandard procedures → known_text ≡ text_of_table procedures
table_text procedures standard =
    sym (ap (λ entries. text_of_entries notes entries ++ flat_map text_of_compound_row compound_rows) (entries_known procedures standard))

-- the built-in compounds are those of the table
pub rows_built_in : (d : Declared) → HasPrelude d → All (IsBuiltInRow d) compound_rows
rows_built_in d prelude = All-from_recursion (IsBuiltInRow d) compound_rows (prelude.sum, (prelude.product, (prelude.conditional, tt)))
