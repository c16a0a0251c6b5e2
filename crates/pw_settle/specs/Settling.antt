-- What a settling of a network in a worldview comes to.
use Rattle.std.specs.Prelude.{IfOk, OnOk, Result}
use Rattle.pw_premises.specs.Premises.{Premises}
use Rattle.pw_cells.specs.Cells.{Store}
use Rattle.pw_network.specs.Network.{Network}
use Rattle.pw_settle.specs.Growth.{HasValues, KeepsIfSound, KeepsMore, RestOnUpstream, StaysUpstream}
use Rattle.pw_settle.specs.Settled.{Settled}

-- it answers the values in the worldview, and the store keeps them, if it was sound; and the premises
-- that come with them lie upstream. After a failure too, the store keeps no less, stays sound, and
-- rests only on premises upstream
pub record Settles {E : Type 0} (network : Network) (old new : Store) (w : Premises)
    (result : Result Settled E) : Type 0 where
  pub found : IfOk result (HasValues network old new w)
  pub kept : OnOk result (KeepsIfSound network old new w)
  pub lie : IfOk result (λ settled. RestOnUpstream network old settled.supports)
  pub grows : KeepsMore network old new
  pub upstream : StaysUpstream network old new
