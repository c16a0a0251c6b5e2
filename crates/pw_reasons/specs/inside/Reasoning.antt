-- What the search for a reason has shown so far of the premises that it still tries, and how a
-- proof tells the conflicts of one network from those of another.
use Rattle.std.specs.Prelude.{refl, ◌≡◌, ℕ, true, List, Option, IfSome}
use Rattle.std.specs.Coded.{Coded, code_by, coded×, coded_ℕ, coded_list}
use Rattle.pw_reasons.specs.Conflicts.{Conflicts}
use Rattle.std.specs.FinSet.{is_subset}
use Rattle.pw_info.specs.declared.info.Info.{Info}
use Rattle.pw_info.specs.Information.{Implies}
use Rattle.pw_premises.specs.Premises.{Premises}
use Rattle.pw_cells.specs.Cells.{Store}
use Rattle.pw_network.specs.Network.{Network}
use Rattle.pw_settle.specs.Settled.{IsSettled, Settled}
use Rattle.pw_settle.specs.Values.{value_in}
use Rattle.pw_reasons.specs.Reason.{tried}

-- they are stored as their two lists
abbrev pub conflicts_code : Coded Conflicts
conflicts_code =
    code_by _ (coded× (coded_list coded_ℕ) (coded_list coded_ℕ)) (λ c. (c.cells, c.lines)) (λ p.
    record { cells = p.0; lines = p.1 }) (λ _. refl)

-- they are premises of the worldview, and if exactly they are believed, the value of the cell says
-- at least this
pub record AreEnough (network : Network) (store : Store) (cell : ℕ) (info : Info)
    (worldview premises : Premises) : Type 0 where
  pub within : is_subset premises worldview ≡ true
  pub enough : Implies (value_in network store premises cell) info

-- the values found last, if there are any, are those of a worldview
abbrev pub AreSettledLast : Network → Store → Option Settled → Type 0
AreSettledLast network store last = IfSome last (λ values.
    IsSettled network store values.worldview values)

-- what is left of the premises once this one was tried for the value of the cell
abbrev pub tried_in : Network → Store → ℕ → Premises → Premises → ℕ → Premises
tried_in network store cell worldview left premise =
    tried (λ w. value_in network store w cell) worldview left premise
