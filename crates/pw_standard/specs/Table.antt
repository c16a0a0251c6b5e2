-- The table of the standard procedures and the built-in compounds: a row for each, with its name, what
-- it takes and gives, and whether it carries information one way or all ways.
use Rattle.std.specs.Prelude.{ℕ, ◌+◌, ◌-◌, List, [], ◌∷◌, ◌++◌, codes, length, map, replicate}
use Rattle.std.specs.Prelude.{slice_index_or}
use Rattle.std.specs.List.{flat_map}
use Rattle.pw_info.specs.Bytes.{space}
use Rattle.pw_info.specs.declared.kind.Kind.{Kind}
use Rattle.pw_info.specs.declared.kind.Kind.TheVariants as kinds
use Rattle.pw_procs.specs.Values.{bool}
use Rattle.pw_procs.specs.declared.signature.Slot.{Slot}
use Rattle.pw_procs.specs.declared.signature.Slot.TheVariants as slots
use Rattle.pw_procs.specs.Signature.{input_slots_of, output_slot_of}
use Rattle.pw_procs.specs.Procedure.{Procedure}
use Rattle.pw_decl.specs.BuiltIn.{IsBuiltIn}
use Rattle.pw_decl.specs.Declaration.{Declared, built_in_kind_names}

-- the name of a kind that every declaration has
abbrev pub name_of_kind : Kind → List ℕ
name_of_kind kinds.Interval = codes "interval"
name_of_kind kinds.Exact = codes "exact"
name_of_kind (kinds.Members set) = slice_index_or built_in_kind_names (set.number + 2) []

-- what a slot takes: a kind, or S for any kind, which is the same in each place
abbrev pub text_of_slot : Slot → List ℕ
text_of_slot (slots.Fixed kind) = name_of_kind kind
text_of_slot slots.Same = codes "S"

-- each name and its kind, each word with a space after it
abbrev pub text_of_places : List (List ℕ) → List (List ℕ) → List ℕ
text_of_places (name ∷ names) (kind ∷ kinds) =
    (name ++ (codes " " ++ (kind ++ codes " "))) ++ text_of_places names kinds
text_of_places names kinds = []

-- a text with spaces after it, up to this width
abbrev pub padded : ℕ → List ℕ → List ℕ
padded width text = text ++ replicate (width - length text) space

-- a row: a name, its cells, the ways, and what it says about its cells
abbrev pub text_of_row : List ℕ → List ℕ → List ℕ → List ℕ → List ℕ
text_of_row name cells ways says =
    padded 13 name ++ (padded 41 cells ++ (padded 10 ways ++ (says ++ codes "\n")))

-- ---- procedures

-- the name of a procedure, and what its slots take, in words
pub record Entry : Type 0 where
  pub name : List ℕ
  pub inputs : List (List ℕ)
  pub output : List ℕ

abbrev pub entry_of : Procedure → Entry
entry_of procedure = record {
  name = procedure.name;
  inputs = map text_of_slot (input_slots_of procedure.signature);
  output = text_of_slot (output_slot_of procedure.signature);
}

-- what the table adds to a procedure: a name for each input, and what it gives
pub record Note : Type 0 where
  pub names : List (List ℕ)
  pub gives : List ℕ

abbrev pub note : List (List ℕ) → List ℕ → Note
note names gives = record { names = names; gives = gives }

-- for the procedures of the table of meanings, and then for `sign`
abbrev pub notes : List Note
notes =
    (note (codes "x" ∷ codes "y" ∷ []) (codes "x + y")) ∷
    (note (codes "t" ∷ codes "x" ∷ []) (codes "t - x")) ∷
    (note (codes "x" ∷ codes "y" ∷ []) (codes "x * y")) ∷
    (note (codes "x" ∷ []) (codes "x * x")) ∷
    (note (codes "t" ∷ codes "x" ∷ []) (codes "t / x; nothing while x may be 0")) ∷
    (note (codes "x" ∷ codes "y" ∷ []) (codes "whether x <= y")) ∷
    (note (codes "x" ∷ codes "y" ∷ []) (codes "whether x = y; S is any kind")) ∷
    (note (codes "p" ∷ []) (codes "not p")) ∷
    (note (codes "p" ∷ codes "q" ∷ []) (codes "p and q")) ∷
    (note (codes "p" ∷ codes "q" ∷ []) (codes "p or q")) ∷
    (note (codes "p" ∷ codes "x" ∷ []) (codes "x if p is true; S is any kind")) ∷
    (note (codes "x" ∷ []) (codes "x; S is any kind")) ∷
    (note (codes "k" ∷ []) (codes "k")) ∷
    (note (codes "x" ∷ []) (codes "x, once it has one value")) ∷
    (note (codes "x" ∷ []) (codes "neg, zero or pos, as x is")) ∷ []

-- a row of a procedure
abbrev pub text_of_entry : Note → Entry → List ℕ
text_of_entry note entry =
    text_of_row entry.name
    (text_of_places note.names entry.inputs ++ (codes "-> " ++ entry.output))
    (codes "one way") note.gives

-- a row for each procedure with its note
abbrev pub text_of_entries : List Note → List Entry → List ℕ
text_of_entries (note ∷ more) (entry ∷ entries) = text_of_entry note entry
    ++ text_of_entries more entries
text_of_entries more entries = []

-- the entries of the standard procedures, of which the first is `sign`, with `sign` last
abbrev pub entries_of : List Procedure → List Entry
entries_of [] = []
entries_of (sign ∷ others) = map entry_of others ++ entry_of sign ∷ []

-- ---- compounds

-- a built-in compound: its name, its number, the names and the kinds of its parameters, the ways,
-- and what it says about its cells
pub record CompoundRow : Type 0 where
  pub name : List ℕ
  pub number : ℕ
  pub names : List (List ℕ)
  pub kinds : List Kind
  pub ways : List ℕ
  pub says : List ℕ

abbrev pub compound_rows : List CompoundRow
compound_rows =
    record {
      name = codes "sum";
      number = 0;
      names = codes "x" ∷ codes "y" ∷ codes "t" ∷ [];
      kinds = kinds.Interval ∷ kinds.Interval ∷ kinds.Interval ∷ [];
      ways = codes "all ways";
      says = codes "t = x + y";
    } ∷
    record {
      name = codes "product";
      number = 1;
      names = codes "x" ∷ codes "y" ∷ codes "t" ∷ [];
      kinds = kinds.Interval ∷ kinds.Interval ∷ kinds.Interval ∷ [];
      ways = codes "all ways";
      says = codes "t = x * y";
    } ∷
    record {
      name = codes "conditional";
      number = 2;
      names = codes "p" ∷ codes "a" ∷ codes "b" ∷ codes "r" ∷ [];
      kinds = bool ∷ kinds.Interval ∷ kinds.Interval ∷ kinds.Interval ∷ [];
      ways = codes "one way";
      says = codes "r = a if p is true, r = b if p is false";
    } ∷ []

abbrev pub text_of_compound_row : CompoundRow → List ℕ
text_of_compound_row row = text_of_row row.name
    (text_of_places row.names (map name_of_kind row.kinds)) row.ways row.says

-- in the declaration, the name calls this compound, which takes cells of these kinds
abbrev pub IsBuiltInRow : Declared → CompoundRow → Type 0
IsBuiltInRow d row = IsBuiltIn d row.name row.number row.kinds

-- ---- the table

-- the rows of the standard procedures, with the slots of their signatures, and then those of the
-- built-in compounds
abbrev pub text_of_table : List Procedure → List ℕ
text_of_table procedures = text_of_entries notes (entries_of procedures)
    ++ flat_map text_of_compound_row compound_rows
