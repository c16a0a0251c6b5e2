-- What may be believed beside some premises: with one premise of each of some groups.
use Rattle.std.specs.Prelude.{ℕ, List, map}
use Rattle.std.specs.FinSet.{from_list, union}
use Rattle.pw_premises.specs.Premises.{Premises}
use Rattle.pw_reasons.specs.Combinations.{combinations_of}

-- what is believed, together with the premises of each combination of the groups
abbrev pub worldviews_beside : Premises → List (List ℕ) → List Premises
worldviews_beside believed groups = map (λ taken. union believed (from_list taken)) (combinations_of groups)
