-- The combinations of groups: one premise from each.
use Rattle.std.specs.Prelude.{ℕ, List, [], ◌∷◌, map, take}
use Rattle.std.specs.List.{flat_map}
use Rattle.std.specs.FinSet.{difference, from_list, union}
use Rattle.pw_premises.specs.Premises.{Premises}
use Rattle.pw_reasons.specs.Groups.{all_of}
use Rattle.pw_reasons.specs.declared.groups.Groups.{Groups}
use Rattle.pw_reasons.specs.declared.picks.Picks.{Picks}
use Rattle.pw_reasons.specs.inside.GroupsHeld.{groups_in}

-- the groups that these are
abbrev pub groups_of : Groups → List (List ℕ)
groups_of groups = groups_in groups.held groups.count

-- the premises taken
abbrev pub picked_in : Picks → List ℕ
picked_in picks = take picks.count picks.held

-- the combinations, in order, the last group changing fastest: behind each premise of the first
-- group, in order, those of the other groups
abbrev pub combinations_of : List (List ℕ) → List (List ℕ)
combinations_of [] = [] ∷ []
combinations_of (group ∷ groups) =
    flat_map (λ premise. map (λ others. premise ∷ others) (combinations_of groups)) group

-- what is believed without all premises of the groups, together with those taken
abbrev pub worldview_of : Premises → List (List ℕ) → List ℕ → Premises
worldview_of beliefs groups taken = union (difference beliefs (from_list (all_of groups))) (from_list taken)

-- the worldviews of all combinations, in order
abbrev pub worldviews_of : Premises → List (List ℕ) → List Premises
worldviews_of beliefs groups = map (worldview_of beliefs groups) (combinations_of groups)
