-- The number of procedure calls of a settling, and flags of instances.
use Rattle.std.specs.Prelude.{ℕ, zero, suc, ◌+◌, ◌-◌, ◌*◌, ◌^◌, Bool, false, length, map}
use Rattle.std.specs.Prelude.{slice_index_or, ◌≡◌, List, ◌≤◌}
use Rattle.std.specs.FinSet.{is_subset}
use Rattle.std.specs.List.{count_by}
use Rattle.pw_info.specs.Rank.{rank_of}
use Rattle.pw_premises.specs.Premises.{Premises}
use Rattle.pw_cells.specs.Cells.{Store, kept_in}
use Rattle.pw_network.specs.Network.{Attached, Network}
use Rattle.pw_network.specs.Readers.{readers_of}
use Rattle.pw_settle.specs.Settled.{Settled}

-- a count of calls stays below this: a network can gain far less
abbrev pub most_calls : ℕ
most_calls = 2 ^ 127

-- whether the flag of this number is set
abbrev pub is_set : List Bool → ℕ → Bool
is_set flags number = slice_index_or flags number false

-- the number of set flags
abbrev pub tally : List Bool → ℕ
tally flags = count_by (λ flag. flag) flags

-- all premises under which the instance was attached are in the worldview
abbrev pub is_instance_visible : Premises → Attached → Bool
is_instance_visible w attached = is_subset attached.support w

-- the same for the instance of this number
abbrev pub visible_at : Network → Premises → ℕ → Bool
visible_at network w number = slice_index_or (map (is_instance_visible w) network.attached) number
    false

-- the number of instances that are visible in the worldview
abbrev pub visible_count : Network → Premises → ℕ
visible_count network w = count_by (is_instance_visible w) network.attached

-- the number of visible instances that read the cell
abbrev pub reader_count : Network → Premises → ℕ → ℕ
reader_count network w cell = count_by (visible_at network w) (readers_of network cell)

-- the sum over the numbers below this one
abbrev pub sum_below : ℕ → (ℕ → ℕ) → ℕ
sum_below zero f = 0
sum_below (suc n) f = sum_below n f + f n

-- the gains from one store to another: the sum over the cells of the rank that the kept information
-- has lost, times the visible readers
abbrev pub gains : Network → Store → Store → Premises → ℕ
gains network old new w =
    sum_below (length old.cells) (λ cell. (rank_of (kept_in old cell w) - rank_of
    (kept_in new cell w)) * reader_count network w cell)

-- the flags say of each instance whether it is visible in the worldview
abbrev pub AreVisible : Network → Premises → List Bool → Type 0
AreVisible network w visible = visible ≡ map (is_instance_visible w) network.attached

-- a settling called procedures at most once for each visible instance, and again for each reader of
-- what was gained
abbrev pub CallsAtMost : Network → Store → Store → Premises → Settled → Type 0
CallsAtMost network old new w settled = settled.calls ≤ visible_count network w + gains network old
    new w
