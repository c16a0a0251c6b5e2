use Rattle.std.proofs.Common.{◌<◌, All, take}
use Rattle.pw_premises.specs.Premises.{most_premises}
use Rattle.pw_reasons.specs.Combinations.{groups_of}
use Rattle.pw_test_networks.proofs.choices.are_premises.Given as goal

abbrev pub invariant-loop-place : goal.invariant-loop-place
invariant-loop-place l = All (All (λ premise. premise < most_premises)) (take l.place (groups_of l.groups))
