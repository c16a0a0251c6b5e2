-- The first consistent combination of groups of premises.
use Rattle.std.specs.Prelude.{◌≡◌, ℕ, List, ◌∷◌, ◌++◌, map}
use Rattle.pw_premises.specs.Premises.{Premises}
use Rattle.pw_cells.specs.Cells.{Store}
use Rattle.pw_network.specs.Network.{Network}
use Rattle.pw_reasons.specs.Combinations.{combinations_of, worldview_of}
use Rattle.pw_reasons.specs.Nogood.{AreNogoods, IsNogood}

-- if exactly these premises are believed, nothing is contradictory
abbrev pub IsConsistent : Network → Store → Premises → Type 0
IsConsistent network store premises = IsNogood network store premises → ⊥

-- these premises are the first combination of the groups under which nothing is contradictory: under
-- each earlier one, something is
pub record IsFirstConsistent (network : Network) (store : Store) (beliefs : Premises)
    (groups : List (List ℕ)) (taken : List ℕ) : Type 0 where
  pub earlier : List (List ℕ)
  pub later : List (List ℕ)
  pub order : combinations_of groups ≡ earlier ++ taken ∷ later
  pub nogoods : AreNogoods network store (map (worldview_of beliefs groups) earlier)
  pub consistent : IsConsistent network store (worldview_of beliefs groups taken)
