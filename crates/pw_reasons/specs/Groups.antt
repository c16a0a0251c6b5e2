-- Groups to choose from.
use Rattle.std.specs.Prelude.{◌≢◌, ℕ, ◌≤◌, List, length, All}
use Rattle.std.specs.List.{AllPairs, flat_map}

-- the greatest number of groups
abbrev pub most_groups : ℕ
most_groups = 6

-- the greatest number of things in a group
abbrev pub most_in_a_group : ℕ
most_in_a_group = 4

-- one thing of it can be taken, and it is not too long
pub record IsGroup {X : Type 0} (group : List X) : Type 0 where
  pub some : 1 ≤ length group
  pub few : length group ≤ most_in_a_group

-- everything in the groups, in order
abbrev pub all_of : {X : Type 0} → List (List X) → List X
all_of groups = flat_map (λ group. group) groups

-- one to six groups, and nothing stands twice in the whole
pub record AreGroups {X : Type 0} (groups : List (List X)) : Type 0 where
  pub some : 1 ≤ length groups
  pub few : length groups ≤ most_groups
  pub each : All IsGroup groups
  pub once : AllPairs (λ x y. x ≢ y) (all_of groups)
