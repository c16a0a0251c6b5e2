-- Which instances write a cell.
use Rattle.std.specs.Prelude.{ℕ, List, Bool, nat_eq}
use Rattle.pw_network.specs.Network.{Attached, Network}
use Rattle.pw_network.specs.Readers.{numbers_from}

-- the instance has the cell as its output
abbrev pub writes : ℕ → Attached → Bool
writes cell attached = nat_eq cell attached.instance.output

-- the numbers of these instances that write it, in rising order
abbrev pub writers_in : List Attached → ℕ → List ℕ
writers_in attached cell = numbers_from (writes cell) attached 0

-- the numbers of all instances that write it, in rising order
abbrev pub writers_of : Network → ℕ → List ℕ
writers_of network cell = writers_in network.attached cell
