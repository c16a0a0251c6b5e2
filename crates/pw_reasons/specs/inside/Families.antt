-- The sets of a family, and what one more set changes.
use Rattle.std.specs.Prelude.{◌≡◌, ◌⊎◌, ◌||◌, List, [], ◌∷◌, ◌++◌, Contains, map}
use Rattle.std.specs.FinSet.{empty, insert, is_subset, union}
use Rattle.pw_premises.specs.Premises.{Premises}
use Rattle.pw_reasons.specs.Nogood.{covers}
use Rattle.pw_reasons.specs.declared.family.Family.{Family, Nothing, Nil, Split'}

-- the sets of a family
abbrev pub sets_of : {A : Type 0} → Family A → List Premises
sets_of Nothing = []
sets_of Nil = empty ∷ []
sets_of (Split' p premise with without) = map (λ set. insert set premise) (sets_of with) ++ sets_of without

-- the sets, each together with these premises
abbrev pub joined_with : Premises → List Premises → List Premises
joined_with premises sets = map (λ set. union premises set) sets

-- the new sets cover what the old ones cover, and what includes the premises; and each of them is an
-- old one, or has just these premises
pub record HasOneMore (old new : List Premises) (premises : Premises) : Type 0 where
  pub covered : (w : Premises) → covers new w ≡ (is_subset premises w || covers old w)
  pub within : (set : Premises) → Contains new set → (set ≡ premises) ⊎ Contains old set
