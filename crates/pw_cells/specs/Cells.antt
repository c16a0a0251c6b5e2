-- What a store of cells shows, and what is kept of a cell once facts were assimilated.
use Rattle.std.specs.Prelude.{Bool, not, ◌&&◌, if◌then◌else◌, List, [], ◌∷◌, ◌++◌, filter, fold}
use Rattle.std.specs.Prelude.{nat_eq, ◌≡◌, ℕ, true, Contains, map, slice_index_or}
use Rattle.std.specs.List.{list_any}
use Rattle.std.specs.FinSet.{is_subset, contains}
use Rattle.pw_info.specs.Information.{meet, nothing, Implies}
use Rattle.pw_info.specs.Rank.{rank_of}
use Rattle.pw_facts.specs.declared.fact.Fact.{Fact}
use Rattle.pw_cells.specs.declared.arrival.Arrival.{Arrival}
use Rattle.pw_info.specs.declared.kind.Kind.{Kind}
use Rattle.pw_info.specs.declared.info.Info.{Info}
use Rattle.pw_premises.specs.Premises.{Premises}
use Rattle.pw_facts.specs.Facts.{shows, Subsumes}
use Rattle.pw_info.specs.declared.kind.Kind.TheVariants as kinds

-- whether the first of two facts of one kind subsumes the second: it leaves no value possible that
-- the second does not, so that their merge leaves exactly its values possible, and it rests on no
-- premise that the second does not rest on
unfoldable pub does_subsume : Fact → Fact → Bool
does_subsume a b = nat_eq (rank_of (meet a.info b.info)) (rank_of a.info)
    && is_subset a.support b.support

-- this information on these premises
abbrev pub fact_on : Info → Premises → Fact
fact_on info support = record { info = info; support = support }

-- the facts that this one does not subsume
abbrev pub unsubsumed : Fact → List Fact → List Fact
unsubsumed fact facts = filter (λ f. not (does_subsume fact f)) facts

-- the kept facts after a fact is assimilated: the same as before if one of them subsumes the fact;
-- otherwise the facts that it does not subsume, and the fact itself
unfoldable pub assimilated : List Fact → Fact → List Fact
assimilated kept fact = if list_any (λ f. does_subsume f fact) kept then kept else unsubsumed fact
    kept ++ fact ∷ []

-- the kept facts after all late facts are assimilated, one after another
abbrev pub all_assimilated : List Fact → List Fact → List Fact
all_assimilated kept later = fold assimilated kept later

-- a cell: its kind, facts that say what was told about it, and the facts kept of it
pub record Cell : Type 0 where
  pub kind : Kind
  pub told : List Fact
  pub kept : List Fact

-- the facts that came lately, in their order, and the number of those before them, which are
-- forgotten
pub record Arrivals : Type 0 where
  pub past : ℕ
  pub list : List Arrival

-- cells by their numbers, the number of further cells that there is room for, and what came to be
-- kept lately
pub record Store : Type 0 where
  pub cells : List Cell
  pub room : ℕ
  pub arrivals : Arrivals

-- the greatest number of cells: as many as 32-bit numbers can count
abbrev pub most_store_cells : ℕ
most_store_cells = 4294967295

-- a cell about which nothing was told
abbrev pub new_cell : Kind → Cell
new_cell kind = record { kind = kind; told = []; kept = [] }

-- the cell of this number; past the last cell, an interval cell about which nothing was told
abbrev pub cell_at : Store → ℕ → Cell
cell_at store cell = slice_index_or store.cells cell (new_cell kinds.Interval)

-- the kind of the cell of this number, and the kinds of all cells in their order
abbrev pub kind_in_store : Store → ℕ → Kind
kind_in_store store cell = (cell_at store cell).kind

abbrev pub kinds_of : Store → List Kind
kinds_of store = map (λ (c : Cell). c.kind) store.cells

-- the facts kept of a cell
abbrev pub kept_at : Store → ℕ → List Fact
kept_at store cell = (cell_at store cell).kept

-- what facts of a kind together show in a worldview
abbrev pub shown_by : Kind → Premises → List Fact → Info
shown_by kind worldview facts = fold (λ info fact.
    meet info (shows worldview fact)) (nothing kind) facts

-- the told information about a cell in a worldview: for the cell itself, and for the cell of this
-- number
abbrev pub told_of : Cell → Premises → Info
told_of cell worldview = shown_by cell.kind worldview cell.told

abbrev pub told_in : Store → ℕ → Premises → Info
told_in store cell worldview = told_of (cell_at store cell) worldview

-- the same for the cell of this number of a list
abbrev pub told_at : List Cell → ℕ → Premises → Info
told_at cells cell worldview = told_of (slice_index_or cells cell (new_cell kinds.Interval))
    worldview

-- the kept information about a cell in a worldview, in the same way
abbrev pub kept_of : Cell → Premises → Info
kept_of cell worldview = shown_by cell.kind worldview cell.kept

abbrev pub kept_in : Store → ℕ → Premises → Info
kept_in store cell worldview = kept_of (cell_at store cell) worldview

-- what is known does not say as much as the information
abbrev pub IsUnsaid : Info → Info → Type 0
IsUnsaid known info = Implies known info → ⊥

-- a fact of the list subsumes this one
abbrev pub IsSubsumedBy : List Fact → Fact → Type 0
IsSubsumedBy facts fact = (f : Fact) × Contains facts f × Subsumes f fact

-- each of the premises is a premise of some fact of the list
abbrev pub ArePremisesOf : List Fact → Premises → Type 0
ArePremisesOf facts premises = (p : ℕ) → contains premises p ≡ true → (f : Fact) × Contains facts f
    × (contains f.support p ≡ true)
