-- Sets that refute the premises of a group alike, and what noting them changes.
use Rattle.std.specs.Prelude.{◌≡◌, ◌⊎◌, ◌||◌, ℕ, true, Some, None, List, Option, [], Contains}
use Rattle.std.specs.List.{flat_map}
use Rattle.std.specs.FinSet.{insert}
use Rattle.pw_premises.specs.Premises.{Premises}
use Rattle.pw_reasons.specs.Nogood.{covers}
use Rattle.pw_reasons.specs.inside.Products.{worldviews_beside}

-- the new sets cover what the old ones cover, and what includes one of the others; and each of them is
-- an old one, or one of the others
pub record HasMore (old new others : List Premises) : Type 0 where
  pub covered : (w : Premises) → covers new w ≡ (covers others w || covers old w)
  pub within : (set : Premises) → Contains new set → Contains others set ⊎ Contains old set

-- the new sets cover no less than the old ones; and each of them is an old one, or one of the others
pub record MayHaveMore (old new others : List Premises) : Type 0 where
  pub covers_more : (w : Premises) → covers old w ≡ true → covers new w ≡ true
  pub within : (set : Premises) → Contains new set → Contains others set ⊎ Contains old set

-- the worldviews with one premise more, beside the other groups
abbrev pub beside : Premises → List (List ℕ) → ℕ → List Premises
beside believed groups premise = worldviews_beside (insert believed premise) groups

-- the sets that refute each of these premises alike, if they do: some premises with this one, and one
-- of each of the groups
abbrev pub pending : Option Premises → List (List ℕ) → List ℕ → List Premises
pending None groups passed = []
pending (Some fixed) groups passed = flat_map (beside fixed groups) passed
