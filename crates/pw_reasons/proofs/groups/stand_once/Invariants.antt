use Rattle.std.proofs.Common.{◌≢◌, ◌++◌, take}
use Rattle.std.specs.List.{AllPairs}
use Rattle.pw_reasons.specs.inside.GroupsHeld.{all_premises}
use Rattle.pw_reasons.proofs.groups.stand_once.Given as goal

-- nothing stands twice so far
abbrev pub invariant-loop-place : goal.invariant-loop-place
invariant-loop-place l = AllPairs (λ m n. m ≢ n) (all_premises l.groups ++ take l.place l.premises)
