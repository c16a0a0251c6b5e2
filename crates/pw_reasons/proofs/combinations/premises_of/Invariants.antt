use Rattle.std.proofs.Common.{◌≡◌, take}
use Rattle.std.specs.FinSet as set
use Rattle.pw_reasons.specs.Combinations.{groups_of}
use Rattle.pw_reasons.specs.Groups.{all_of}
use Rattle.pw_reasons.proofs.combinations.premises_of.Given as goal

-- the premises of the groups so far
abbrev pub invariant-loop-place : goal.invariant-loop-place
invariant-loop-place l = l.set ≡ set.from_list (all_of (take l.place (groups_of l.groups)))
