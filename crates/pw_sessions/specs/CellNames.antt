-- The cells of a network by name: the declared cells, and the inner cells of what was attached.
use Rattle.std.specs.Prelude.{◌≡◌, ℕ, ◌==◌, Bool, false, ◌&&◌, List, [], ◌∷◌, ◌++◌, nat_eq, length}
use Rattle.std.specs.Prelude.{map, slice_index_or, if◌then◌else◌}
use Rattle.std.specs.Bool.{Decides}
use Rattle.std.specs.List.{flat_map, range_with_len}
use Rattle.std.proofs.Common.{ap}
use Rattle.std.proofs.lemmas.Bool.{and_parts, and_from}
use Rattle.pw_info.specs.declared.kind.Kind.{Kind}
use Rattle.pw_info.specs.declared.kind.Kind.TheVariants as kinds
use Rattle.pw_decl.specs.Declaration.{Declared, kind_at}
use Rattle.pw_decl.specs.Expansion.{inner_kinds_of}
use Rattle.pw_network.specs.Wiring.{Name, DeclaredCell, InnerCellOf}
use Rattle.pw_settle.specs.Values.{nat_eq_decides}
use Rattle.pw_settle.specs.Sources.{Cells}
use Rattle.pw_sessions.specs.Entries.{Entry, Told, Attached}

-- whether two names are the same
abbrev pub same_name : Name → Name → Bool
same_name (DeclaredCell a) (DeclaredCell b) = nat_eq a b
same_name (InnerCellOf line number) (InnerCellOf other at) = nat_eq line other && nat_eq number at
same_name a b = false

-- it decides whether they are equal
pub same_name_decides : (a b : Name) → Decides (same_name a b) (a ≡ b)
same_name_decides (DeclaredCell a) (DeclaredCell b) = (
  λ e. ap DeclaredCell ((nat_eq_decides a b).0 e),
  λ e.
      (nat_eq_decides a b).1 (let same : a ≡ b = cc in same),
)
same_name_decides (InnerCellOf line number) (InnerCellOf other at) = (
  λ e. let both = and_parts (nat_eq line other) (nat_eq number at) e in
      λ i. InnerCellOf ((nat_eq_decides line other).0 both.0 i)
      ((nat_eq_decides number at).0 both.1 i),
  λ e. and_from (nat_eq line other) (nat_eq number at)
      ((nat_eq_decides line other).1 (let same : line ≡ other = cc in same))
      ((nat_eq_decides number at).1 (let same : number ≡ at = cc in same)),
)
same_name_decides (DeclaredCell a) (InnerCellOf line number) = (λ e. absurd (cc), λ e. absurd (cc))
same_name_decides (InnerCellOf line number) (DeclaredCell a) = (λ e. absurd (cc), λ e. absurd (cc))

-- the kinds of the inner cells that the attachment of this line made, in the order of their numbers
abbrev pub inner_kinds_at : Declared → List Entry → ℕ → List Kind
inner_kinds_at d [] line = []
inner_kinds_at d (Told at cell fact ∷ entries) line = inner_kinds_at d entries line
inner_kinds_at d (Attached at callable cells support ∷ entries) line =
    if at == line then inner_kinds_of d.compounds callable else inner_kinds_at d entries line

-- the kind of a cell by its name, with these entries
abbrev pub kind_by_name : Declared → List Entry → Name → Kind
kind_by_name d entries (DeclaredCell cell) = kind_at d cell
kind_by_name d entries (InnerCellOf line number) =
    slice_index_or (inner_kinds_at d entries line) number kinds.Interval

-- cells by name, with these entries
abbrev pub named_cells : Declared → List Entry → Cells Name
named_cells d entries = record {
  same = same_name;
  decides = same_name_decides;
  kind =
      kind_by_name d entries;
}

-- the names of the inner cells that an entry makes
abbrev pub inner_names_of : Declared → Entry → List Name
inner_names_of d (Told line cell fact) = []
inner_names_of d (Attached line callable cells support) =
    map (InnerCellOf line) (range_with_len 0 (length (inner_kinds_of d.compounds callable)))

-- the names of all cells, with these entries
abbrev pub names_after : Declared → List Entry → List Name
names_after d entries = map DeclaredCell (range_with_len 0 (length d.cells))
    ++ flat_map (inner_names_of d) entries
