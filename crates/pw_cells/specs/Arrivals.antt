-- What came to be kept of the cells of a store lately: what has come since a mark, as long as the
-- store remembers it.
use Rattle.std.specs.Prelude.{◌≡◌, ◌⊎◌, ◌<◌, ◌≤◌, ◌+◌, ◌-◌, ℕ, List, All, Contains, Option, Some, None}
use Rattle.std.specs.Prelude.{drop, if◌then◌else◌, length, nat_lt}
use Rattle.pw_info.specs.declared.info.Info.{Info}
use Rattle.pw_info.specs.Information.{kind_of, Implies}
use Rattle.pw_premises.specs.Premises.{Premises}
use Rattle.pw_facts.specs.declared.fact.Fact.{Fact}
use Rattle.pw_facts.specs.Facts.{shows}
use Rattle.pw_cells.specs.declared.arrival.Arrival.{Arrival}
use Rattle.pw_cells.specs.Cells.{Store, kept_in, kind_in_store, told_in}

-- the number of the facts that came so far, which marks what is kept now
abbrev pub mark_of : Store → ℕ
mark_of store = store.arrivals.past + length store.arrivals.list

-- the facts that came since a mark, in their order, if all of them are remembered
abbrev pub since : Store → ℕ → Option (List Arrival)
since store mark = if nat_lt mark store.arrivals.past then None
    else Some (drop (mark - store.arrivals.past) store.arrivals.list)

-- what came is kept: it is of the kind of its cell, which exists, and in every worldview the kept
-- information says at least what it shows
pub record IsKept (store : Store) (arrival : Arrival) : Type 0 where
  pub there : arrival.cell < length store.cells
  pub kind : kind_of arrival.fact.info ≡ kind_in_store store arrival.cell
  pub says : (w : Premises) → Implies (kept_in store arrival.cell w) (shows w arrival.fact)

-- the information says what each of the facts shows that came about the cell
abbrev pub SaysWhatCame : List Arrival → Premises → ℕ → Info → Type 0
SaysWhatCame list w cell info = All (λ (a : Arrival). a.cell ≡ cell → Implies info (shows w a.fact))
    list

-- what was known at a mark about the first cells, in a worldview, still accounts for what is kept of
-- them there: together with what came since. And what is kept says at least what was told
pub record IsAccounted (store : Store) (mark : ℕ) (w : Premises) (count : ℕ) (known : ℕ → Info)
    : Type 0 where
  pub marked : mark ≤ mark_of store
  pub there : count ≤ length store.cells
  pub told : (cell : ℕ) → cell < count → Implies (kept_in store cell w) (told_in store cell w)
  pub kept : (cell : ℕ) → cell < count → Implies (kept_in store cell w) (known cell)
  pub came : (list : List Arrival) → since store mark ≡ Some list → All (IsKept store) list
  -- what says as much as was known, and what came since, says all that is kept
  pub all : (list : List Arrival) → since store mark ≡ Some list → (cell : ℕ) → cell < count →
      (info : Info) → kind_of info ≡ kind_in_store store cell → Implies info (known cell) →
      SaysWhatCame list w cell info → Implies info (kept_in store cell w)

-- what accounted for what was kept in the one store does so in the other
abbrev pub Continues : Store → Store → Type 0
Continues old new =
    (mark : ℕ) (w : Premises) (count : ℕ) (known : ℕ → Info) → IsAccounted old mark w count known →
    IsAccounted new mark w count known

-- each fact that is remembered was remembered before, or came about this cell now
abbrev pub Remembers : ℕ → Fact → Store → Store → Type 0
Remembers cell fact old new =
    (a : Arrival) → Contains new.arrivals.list a →
    (a ≡ record { cell = cell; fact = fact }) ⊎ Contains old.arrivals.list a
