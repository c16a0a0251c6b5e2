-- What follows from entries: the values of cells.
use Rattle.std.specs.Prelude.{ℕ, Bool, List, ◌∷◌, [], Contains, filter, map}
use Rattle.std.specs.List.{flat_map}
use Rattle.std.specs.FinSet.{is_subset}
use Rattle.pw_info.specs.declared.info.Info.{Info}
use Rattle.pw_premises.specs.Premises.{Premises}
use Rattle.pw_decl.specs.Declaration.{Declared}
use Rattle.pw_decl.specs.Expansion.{expansion_of}
use Rattle.pw_network.specs.Wiring.{Name, DeclaredCell, InnerCellOf}
use Rattle.pw_settle.specs.Sources as sources
use Rattle.pw_settle.specs.Sources.{Source, cell_of, is_propagator}
use Rattle.pw_settle.specs.Fixpoint.{AreOver, fixpoint}
use Rattle.pw_settle.specs.Values.{propagators_of}
use Rattle.pw_sessions.specs.CellNames.{named_cells, names_after}
use Rattle.pw_sessions.specs.Entries.{Entry, Told, Attached, support_of}

-- an entry rests on premises that are all believed
abbrev pub is_visible : Premises → Entry → Bool
is_visible beliefs entry = is_subset (support_of entry) beliefs

-- the entries whose premises are all believed
abbrev pub visible_in : List Entry → Premises → List Entry
visible_in entries beliefs = filter (λ entry. is_subset (support_of entry) beliefs) entries

-- what an entry says about cells: a fact is told about its cell; a callable becomes instances on
-- its cells and on inner cells that are named by the line
abbrev pub sources_of : Declared → Entry → List (Source Name)
sources_of d (Told line cell fact) = sources.Told (DeclaredCell cell) fact.info ∷ []
sources_of d (Attached line callable cells support) =
    propagators_of d.procedures (expansion_of d.compounds callable (map DeclaredCell cells)
    (InnerCellOf line))

-- what entries say about cells
abbrev pub sources_after : Declared → List Entry → List (Source Name)
sources_after d entries = flat_map (sources_of d) entries

-- what follows from entries, at each cell: the least informed fixpoint of everything that they say
abbrev pub value_by_name : Declared → List Entry → Name → Info
value_by_name d entries name = fixpoint (named_cells d entries) (names_after d entries)
    (sources_after d entries) name

-- what the entries say fits their cells and informs no others, as the laws of the fixpoint require
abbrev pub MeetTheLaws : Declared → List Entry → Type 0
MeetTheLaws d entries = AreOver (named_cells d entries) (names_after d entries)
    (sources_after d entries)

-- the value of a declared cell
abbrev pub cell_value : Declared → List Entry → ℕ → Info
cell_value d entries cell = value_by_name d entries (DeclaredCell cell)

-- an instance of the entries writes the declared cell
abbrev pub IsWritten : Declared → List Entry → ℕ → Type 0
IsWritten d entries cell = Contains (map cell_of (filter is_propagator (sources_after d entries)))
    (DeclaredCell cell)

-- the value of a declared cell if exactly these premises are believed: from the entries that are
-- then visible
abbrev pub cell_value_under : Declared → List Entry → ℕ → Premises → Info
cell_value_under d entries cell believed = cell_value d (visible_in entries believed) cell
