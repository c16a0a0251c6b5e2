-- How instances are queued as what is known about cells changes.
use Rattle.std.specs.Prelude.{◌≡◌, ◌⊎◌, ◌+◌, ◌≤◌, ℕ, Bool, true, List, Contains, length, slice_index_or}
use Rattle.std.specs.List.{count_by}
use Rattle.pw_info.specs.declared.info.Info.{Info}
use Rattle.pw_info.specs.Information.{kind_of, nothing, Implies}
use Rattle.pw_network.specs.Network.{Network}
use Rattle.pw_network.specs.Readers.{readers_of}
use Rattle.pw_settle.specs.Calls.{is_set, tally}
use Rattle.pw_settle.specs.Settled.{info_at}

-- what was found about a cell, given what is kept of the cells now; nothing about a cell that did
-- not exist
abbrev pub found_of : List Info → List Info → ℕ → Info
found_of before now cell = slice_index_or before cell (nothing (kind_of (info_at now cell)))

-- what is kept of the cell now is not implied by what was found about it
abbrev pub HasChanged : List Info → List Info → ℕ → Type 0
HasChanged before now cell = Implies (found_of before now cell) (info_at now cell) → ⊥

-- those of these instances that are visible are queued, and nothing else
pub record QueuesNumbers (visible : List Bool) (numbers : List ℕ) (old new : List Bool) : Type 0 where
  pub flags : length new ≡ length old
  pub stay : (number : ℕ) → is_set old number ≡ true → is_set new number ≡ true
  pub queued : (number : ℕ) → Contains numbers number → is_set visible number ≡ true → is_set new number ≡ true
  pub others : (number : ℕ) → is_set new number ≡ true →
      (is_set old number ≡ true) ⊎ ((is_set visible number ≡ true) × Contains numbers number)
  pub most : tally new ≤ tally old + count_by (is_set visible) numbers
  pub least : tally old ≤ tally new

-- the visible readers of these cells are queued, and nothing else
pub record QueuesReaders (network : Network) (visible : List Bool) (IsOne : ℕ → Type 0)
    (old new : List Bool) : Type 0 where
  pub flags : length new ≡ length old
  pub stay : (number : ℕ) → is_set old number ≡ true → is_set new number ≡ true
  pub readers : (cell number : ℕ) → IsOne cell → Contains (readers_of network cell) number →
      is_set visible number ≡ true →
      is_set new number ≡ true
  pub others : (number : ℕ) → is_set new number ≡ true →
      (is_set old number ≡ true)
      ⊎ ((is_set visible number ≡ true) × ((cell : ℕ) × IsOne cell
      × Contains (readers_of network cell) number))
