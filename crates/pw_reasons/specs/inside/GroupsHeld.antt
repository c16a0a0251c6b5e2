-- How the code holds groups.
use Rattle.std.specs.Prelude.{ℕ, List, ◌≡◌, ◌-◌, drop, map, replicate, take, refl}
use Rattle.std.proofs.Common.{arith}
use Rattle.pw_reasons.specs.Groups.{all_of, most_groups}
use Rattle.pw_reasons.specs.declared.group.Group.{Group}

-- the premises of a group
abbrev pub premises_in : Group → List ℕ
premises_in group = take group.count group.held

-- a group of no premise
abbrev pub no_group : Group
no_group = record { held = replicate 4 0; count = 0; few = record { few = omega arith; rest = refl } }

-- the first `count` of these groups
abbrev pub groups_in : List Group → ℕ → List (List ℕ)
groups_in held count = map premises_in (take count held)

-- those past `count` have no premise
abbrev pub FillsUp : List Group → ℕ → Type 0
FillsUp held count = drop count held ≡ replicate (most_groups - count) no_group

-- the premises of these groups, in order
abbrev pub all_premises : List Group → List ℕ
all_premises groups = all_of (map premises_in groups)
