-- What it is for premises to contradict themselves in a network, and which premises the noted
-- contradictions cover. A noted set is a nogood for good: what is told or attached later takes no
-- contradiction back.
use Rattle.std.specs.Prelude.{◌≡◌, ℕ, ◌<◌, List, All, Bool, true}
use Rattle.pw_info.specs.Information.{IsContradiction}
use Rattle.pw_premises.specs.Premises.{Premises}
use Rattle.pw_cells.specs.Cells.{Store}
use Rattle.pw_network.specs.Network.{Network, cells_in}
use Rattle.pw_settle.specs.Values.{value_in}
use Rattle.std.specs.FinSet.{is_subset}
use Rattle.std.specs.List.{list_any}

-- if exactly these premises are believed, the value of some cell is a contradiction
pub record IsNogood (network : Network) (store : Store) (premises : Premises) : Type 0 where
  pub cell : ℕ
  pub here : cell < cells_in network
  pub contradictory : IsContradiction (value_in network store premises cell)

-- each of the sets is a nogood
abbrev pub AreNogoods : Network → Store → List Premises → Type 0
AreNogoods network store nogoods = All (IsNogood network store) nogoods

-- whether one of the noted sets is a subset of these premises
abbrev pub covers : List Premises → Premises → Bool
covers nogoods premises = list_any (λ noted. is_subset noted premises) nogoods

-- where the value of the cell is a contradiction, the nogoods cover its reason
abbrev pub CoversContradiction : Network → Store → Premises → ℕ → List Premises → Premises → Type 0
CoversContradiction network store worldview cell nogoods reason =
    IsContradiction (value_in network store worldview cell) → covers nogoods reason ≡ true
