-- What came lately: one fact more, or all forgotten.
use Rattle.std.specs.Prelude.{◌≡◌, ◌⊎◌, ◌+◌, ◌++◌, ◌-◌, ◌∷◌, [], ℕ, List, Option, Some, None}
use Rattle.std.specs.Prelude.{drop, if◌then◌else◌, length, nat_lt}
use Rattle.pw_cells.specs.declared.arrival.Arrival.{Arrival}
use Rattle.pw_facts.specs.declared.fact.Fact.{Fact}
use Rattle.pw_cells.specs.Cells.{Arrivals, Store}

-- this many facts can be forgotten; after that, each further fact counts as out of memory
abbrev pub most_past : ℕ
most_past = 18446744073709535231

-- those that came after the first `count`, if all of them are remembered
abbrev pub since_in : Arrivals → ℕ → Option (List Arrival)
since_in arrivals count = if nat_lt count arrivals.past then None
    else Some (drop (count - arrivals.past) arrivals.list)

-- one more is remembered
abbrev pub IsAfterArrival : Arrival → Arrivals → Arrivals → Type 0
IsAfterArrival arrival old new = new ≡ record { past = old.past; list = old.list ++ arrival ∷ [] }

-- one more came, and all are forgotten
abbrev pub IsForgotten : Arrivals → Arrivals → Type 0
IsForgotten old new = new ≡ record { past = old.past + length old.list + 1; list = [] }

-- a store notes that this fact came to be kept of this cell, and changes nothing else
pub record Notes (cell : ℕ) (fact : Fact) (old new : Store) : Type 0 where
  pub cells : new.cells ≡ old.cells
  pub room : new.room ≡ old.room
  pub arrivals : IsAfterArrival (record { cell = cell; fact = fact }) old.arrivals new.arrivals
      ⊎ IsForgotten old.arrivals new.arrivals
