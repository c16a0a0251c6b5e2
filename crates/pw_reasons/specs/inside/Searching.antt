-- What a search for a consistent combination has shown where it stands: some premises are believed,
-- and of each of some groups one is still to be taken.
use Rattle.std.specs.Prelude.{◌≡◌, ◌≤◌, ℕ, Bool, true, false, List, Option, [], ◌∷◌, ◌++◌, All, drop, length, map}
use Rattle.std.specs.FinSet.{from_list, is_subset, union}
use Rattle.pw_premises.specs.Premises.{Premises}
use Rattle.pw_cells.specs.Cells.{Store}
use Rattle.pw_network.specs.Network.{Network}
use Rattle.pw_settle.specs.Growth.{KeepsMore, StaysUpstream}
use Rattle.pw_settle.specs.Settled.{Settled}
use Rattle.pw_reasons.specs.Choice.{IsConsistent}
use Rattle.pw_reasons.specs.Combinations.{combinations_of, picked_in}
use Rattle.pw_reasons.specs.inside.Products.{worldviews_beside}
use Rattle.pw_reasons.specs.Nogood.{AreNogoods, IsNogood, covers}
use Rattle.pw_reasons.specs.inside.Reasoning.{AreSettledLast}
use Rattle.pw_reasons.specs.declared.choosing.Found.{Found}
use Rattle.pw_reasons.specs.declared.choosing.Found.TheVariants.{Chosen, Refuted, Nothing}

-- noted sets cover each of these
abbrev pub AreCovered : List Premises → List Premises → Type 0
AreCovered nogoods worldviews = All (λ w. covers nogoods w ≡ true) worldviews

-- the set contradicts itself, and all of it is in the worldview
pub record IsNogoodWithin (network : Network) (store : Store) (worldview nogood : Premises) : Type 0 where
  pub part : is_subset nogood worldview ≡ true
  pub contradicts : IsNogood network store nogood

-- what a trial leaves, however it ends: the noted sets are nogoods and cover no less than before, the
-- values found last are those of a worldview, and the store keeps no less and stays sound
pub record LeavesSound (network : Network) (old : Store) (nogoods : List Premises) (new : Store)
    (noted : List Premises) (last : Option Settled) : Type 0 where
  pub are : AreNogoods network old noted
  pub covers_more : (w : Premises) → covers nogoods w ≡ true → covers noted w ≡ true
  pub last_are : AreSettledLast network old last
  pub grows : KeepsMore network old new
  pub upstream : StaysUpstream network old new

-- the set is part of what is believed, and with one premise of each group from the place on, which is
-- past those picked, it contradicts itself
pub record Refutes (network : Network) (store : Store) (believed : Premises) (groups : List (List ℕ))
    (picked : List ℕ) (nogood : Premises) (place : ℕ) : Type 0 where
  pub part : is_subset nogood believed ≡ true
  pub past : length picked ≤ place
  pub within : place ≤ length groups
  pub nogoods : AreNogoods network store (worldviews_beside nogood (drop place groups))

-- the premises taken, after those before, are the first combination of the groups under which
-- nothing is contradictory, beside what is believed
pub record IsFirstBeside (network : Network) (store : Store) (believed : Premises)
    (groups : List (List ℕ)) (before all : List ℕ) : Type 0 where
  pub earlier : List (List ℕ)
  pub taken : List ℕ
  pub later : List (List ℕ)
  pub order : combinations_of groups ≡ earlier ++ taken ∷ later
  pub made : all ≡ before ++ taken
  pub nogoods : AreNogoods network store (map (λ others. union believed (from_list others)) earlier)
  pub consistent : IsConsistent network store (union believed (from_list taken))

-- what was found beside what is believed, where some premises are picked: the first consistent
-- combination; sets that refute each combination, and that are not noted; or that noted sets cover
-- each combination. If none was found, what is believed is not covered
abbrev pub IsFoundBeside : Network → Store → List Premises → Premises → ℕ → Premises → List (List ℕ) → List ℕ → Found → Type 0
IsFoundBeside network store nogoods nogood place believed groups picked (Chosen picks) =
    IsFirstBeside network store believed (drop (length picked) groups) picked (picked_in picks)
IsFoundBeside network store nogoods nogood place believed groups picked Refuted =
    (covers nogoods believed ≡ false) × Refutes network store believed groups picked nogood place
IsFoundBeside network store nogoods nogood place believed groups picked Nothing =
    (covers nogoods believed ≡ false) × AreCovered nogoods (worldviews_beside believed (drop (length picked) groups))

-- whether this ends a search beside what is believed: a set that refutes only where it is within that
abbrev pub ends_search : Premises → Premises → Found → Bool
ends_search nogood believed (Chosen picks) = true
ends_search nogood believed Refuted = is_subset nogood believed
ends_search nogood believed Nothing = false

-- the sets that refute each combination: if something is refuted, the nogood with one premise of each
-- of the groups
abbrev pub refuting : Found → Premises → List (List ℕ) → List Premises
refuting (Chosen picks) nogood groups = []
refuting Refuted nogood groups = worldviews_beside nogood groups
refuting Nothing nogood groups = []
