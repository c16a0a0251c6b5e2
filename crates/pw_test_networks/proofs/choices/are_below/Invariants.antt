use Rattle.std.proofs.Common.{◌<◌, All, take}
use Rattle.pw_premises.specs.Premises.{most_premises}
use Rattle.pw_test_networks.proofs.choices.are_below.Given as goal

abbrev pub invariant-loop-premise : goal.invariant-loop-premise
invariant-loop-premise l = All (λ premise. premise < most_premises) (take l.premise-index l.premises)
