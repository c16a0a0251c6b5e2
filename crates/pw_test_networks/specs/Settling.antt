-- When a settling can go on.
--
-- The tests build a network and a store step by step, and settle between the steps. Each step asks
-- that the store is sound for the network and leaves it so, and each says whether the values of an
-- earlier settling still fit after it. So a test can tell, attach and settle in any order, and call
-- `settle` and `resettle` wherever their contracts allow it, without a proof of its own for each
-- order of steps. A settling of cells that a network does not have, or of facts that do not follow,
-- is not tested: no contract allows it.
use Rattle.pw_cells.specs.Cells.{Store}
use Rattle.pw_network.specs.Network.{Network}
use Rattle.pw_settle.specs.Growth.{IsFitting}
use Rattle.pw_settle.specs.Settled.{Settled}

-- values of a settling that fitted the one network and store fit the other
abbrev pub LeavesFitting : Network → Store → Network → Store → Type 0
LeavesFitting network old wider new = (settled : Settled) → IsFitting network old settled →
    IsFitting wider new settled
