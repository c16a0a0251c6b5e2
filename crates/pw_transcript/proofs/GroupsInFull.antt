-- What the type of groups says of each group in an array: its numbers are held in full.
use Rattle.std.proofs.Common.{◌≡◌, List, [], ◌∷◌, All, length, rules}
use Rattle.std.specs.List.{AllByRecursion}
use Rattle.std.proofs.lemmas.List.Elements.{All-from_recursion}
use denote.Array.{each}
use denote.Shadow.{shadow}
use mir.Val.{Val}
use Rattle.pw_reasons.specs.Groups.{most_in_a_group}
use Rattle.pw_reasons.specs.contracts.group.Group.{the_row}
use Rattle.pw_reasons.specs.declared.group.Group.{Group}

one_full : (group : Group) (val : Val) → shadow ((the_row).own_val group (val ∷ [])) → length group.held ≡ 4
one_full group val own = search rules

each_full : (held : List Group) (vals : List Val) → shadow (each (the_row).Denot (the_row).own_val held vals) →
    AllByRecursion (λ group. length group.held ≡ most_in_a_group) held
each_full [] vals own = tt
each_full (group ∷ held) [] own = absurd own
each_full (group ∷ held) (val ∷ vals) own = (one_full group val own.0, each_full held vals own.1)

-- groups that are stored as these values
pub groups_full : (held : List Group) (vals : List Val) → shadow (each (the_row).Denot (the_row).own_val held vals) →
    All (λ group. length group.held ≡ most_in_a_group) held
groups_full held vals own = All-from_recursion (λ group. length group.held ≡ most_in_a_group) held (each_full held vals own)
