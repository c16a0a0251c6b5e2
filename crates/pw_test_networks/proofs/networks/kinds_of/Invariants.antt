use Rattle.std.proofs.Common.{◌≡◌, take}
use Rattle.pw_network.specs.Wiring.{wiring}
use Rattle.pw_settle.specs.Values.{kinds_in}
use Rattle.pw_test_networks.proofs.networks.kinds_of.Given as goal

abbrev pub invariant-loop-cell : goal.invariant-loop-cell
invariant-loop-cell g l = l.kinds.items ≡ take l.cell (kinds_in (wiring l.network))
