-- The changes that a call makes in a store: what a cell gains, what happens to its kept facts, and
-- that other cells are unchanged.
use Rattle.std.specs.Prelude.{◌≡◌, ◌≢◌, ◌↔◌, ◌⊎◌, ℕ, Bool, false, List, Contains}
use Rattle.pw_info.specs.declared.info.Info.{Info}
use Rattle.pw_info.specs.Information.{meet}
use Rattle.pw_premises.specs.Premises.{Premises}
use Rattle.pw_facts.specs.declared.fact.Fact.{Fact}
use Rattle.pw_facts.specs.Facts.{shows, Subsumes}
use Rattle.pw_cells.specs.Cells.{Store, cell_at, kept_at, told_in, kept_in, IsSubsumedBy}
use Rattle.std.specs.Prelude.{slice_index_or}
use Rattle.pw_info.specs.declared.kind.Kind.TheVariants as kinds
use Rattle.pw_info.specs.Information.{kind_of}
use Rattle.pw_cells.specs.Cells.{kind_in_store, kinds_of}

-- in each worldview, the new information is the old one, merged with what the fact shows
abbrev pub GainsFact : Fact → (Premises → Info) → (Premises → Info) → Type 0
GainsFact fact old new = (w : Premises) → new w ≡ meet (old w) (shows w fact)

-- the told information about a cell gains the fact, and so does the kept information
abbrev pub GainsTold : ℕ → Fact → Store → Store → Type 0
GainsTold cell fact old new = GainsFact fact (told_in old cell) (told_in new cell)

abbrev pub GainsKept : ℕ → Fact → Store → Store → Type 0
GainsKept cell fact old new = GainsFact fact (kept_in old cell) (kept_in new cell)

-- the answer is false exactly if a fact of the list subsumes this one
abbrev pub TellsNews : List Fact → Fact → Bool → Type 0
TellsNews facts fact news = (news ≡ false) ↔ IsSubsumedBy facts fact

-- kept facts assimilate a fact: it is kept unless one of them subsumes it, and the facts that it
-- subsumes are dropped
pub record Assimilates (fact : Fact) (old new : List Fact) : Type 0 where
  -- it is kept, or a fact that subsumes it
  pub held : IsSubsumedBy new fact
  -- each fact that is kept was kept before, or is this one
  pub within : (f : Fact) → Contains new f → (f ≡ fact) ⊎ Contains old f
  -- each fact that was kept before stays, unless this one subsumes it
  pub stays : (f : Fact) → Contains old f → Contains new f ⊎ Subsumes fact f
  -- no fact that this one subsumes is kept beside it
  pub gone : (f : Fact) → Contains new f → Subsumes fact f → f ≡ fact

-- the kept facts of a cell assimilate a fact
abbrev pub AssimilatesAt : ℕ → Fact → Store → Store → Type 0
AssimilatesAt cell fact old new = Assimilates fact (kept_at old cell) (kept_at new cell)

-- every other cell is unchanged
abbrev pub LeavesOthers : ℕ → Store → Store → Type 0
LeavesOthers cell old new = (c : ℕ) → c ≢ cell → cell_at new c ≡ cell_at old c

-- what is told of a cell is of its kind
abbrev pub ToldIsOfTheKind : Type 0
ToldIsOfTheKind =
    (s : Store) (c : ℕ) (w : Premises) →
    kind_of (told_in s c w) ≡ kind_in_store s c

-- so is what is kept of it
abbrev pub KeptIsOfTheKind : Type 0
KeptIsOfTheKind =
    (s : Store) (c : ℕ) (w : Premises) →
    kind_of (kept_in s c w) ≡ kind_in_store s c

-- the kind of a cell is the one at its place in the list of kinds
abbrev pub KindsAreListed : Type 0
KindsAreListed =
    (s : Store) (c : ℕ) →
    kind_in_store s c ≡ slice_index_or (kinds_of s) c kinds.Interval
