-- Which instances read a cell.
use Rattle.std.specs.Prelude.{ℕ, ◌-◌, List, Bool, false, map, filter, length}
use Rattle.std.specs.Prelude.{nat_eq, slice_index_or}
use Rattle.std.specs.List.{list_any, range_with_len}
use Rattle.pw_network.specs.Network.{Attached, Network}

-- the instance has the cell among its inputs
abbrev pub reads : ℕ → Attached → Bool
reads cell attached = list_any (nat_eq cell) attached.instance.inputs

-- the numbers of the instances that pass the test, of the instances with numbers from this one on,
-- in rising order
abbrev pub numbers_from : (Attached → Bool) → List Attached → ℕ → List ℕ
numbers_from test attached number =
    filter (λ n. slice_index_or (map test attached) n false)
    (range_with_len number (length attached - number))

-- the numbers of the instances that read it, of the instances with numbers from this one on, in
-- rising order
abbrev pub readers_from : List Attached → ℕ → ℕ → List ℕ
readers_from attached cell number = numbers_from (reads cell) attached number

-- the numbers of all instances that read it, in rising order
abbrev pub readers_of : Network → ℕ → List ℕ
readers_of network cell = readers_from network.attached cell 0
