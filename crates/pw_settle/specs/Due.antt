-- The instances that a settling has to call if it continues from the values of an earlier one.
use Rattle.std.specs.Prelude.{◌≡◌, ◌≢◌, ◌⊎◌, ◌↔◌, ℕ, ◌+◌, ◌≤◌, Bool, true, false, ◌&&◌, not, List, Contains, length, nat_lt}
use Rattle.std.specs.FinSet.{is_subset}
use Rattle.pw_premises.specs.Premises.{Premises}
use Rattle.pw_cells.specs.Cells.{Store, kept_in}
use Rattle.pw_network.specs.Network.{Network}
use Rattle.pw_network.specs.Readers.{readers_of}
use Rattle.pw_settle.specs.Calls.{CallsAtMost, gains, is_set, tally, visible_at, visible_count}
use Rattle.pw_settle.specs.Growth.{said_of}
use Rattle.pw_settle.specs.Settled.{Settled}

-- the instance of this number is new to the settled values: it did not exist when they were found,
-- or is not visible in their worldview
abbrev pub is_new : Network → Settled → ℕ → Bool
is_new network settled number = not (nat_lt number settled.instances
    && visible_at network settled.worldview number)

-- it is due: it is visible, and it is new, or reads a cell whose kept information is not what the
-- settled values say
abbrev pub IsDue : Network → Store → Premises → Settled → ℕ → Type 0
IsDue network store w settled number =
    (visible_at network w number ≡ true)
    × ((is_new network settled number ≡ true)
    ⊎ ((cell : ℕ) × Contains (readers_of network cell) number
    × (kept_in store cell w ≢ said_of network settled cell)))

-- the flag of each instance is set exactly if it is due
pub record AreDue (network : Network) (store : Store) (w : Premises) (settled : Settled)
    (due : List Bool) : Type 0 where
  pub many : length due ≡ length network.attached
  pub are : (number : ℕ) → (is_set due number ≡ true) ↔ IsDue network store w settled number

-- in a wider worldview: each instance that is due was called once, and again for each reader of
-- what was gained
abbrev pub CallsWhatIsDue : Network → Store → Store → Premises → Settled → Settled → Type 0
CallsWhatIsDue network old new w before settled =
    is_subset before.worldview w ≡ true →
    (due : List Bool) × AreDue network old w before due × (tally due ≤ settled.calls)
    × (settled.calls ≤ tally due + gains network old new w)

-- in another worldview: each visible instance was called
abbrev pub CallsEachAtLeast : Network → Premises → Settled → Settled → Type 0
CallsEachAtLeast network w before settled =
    is_subset before.worldview w ≡ false → visible_count network w ≤ settled.calls

-- and again for each reader of what was gained, and no more
abbrev pub CallsEachAtMost : Network → Store → Store → Premises → Settled → Settled → Type 0
CallsEachAtMost network old new w before settled =
    is_subset before.worldview w ≡ false → CallsAtMost network old new w settled
