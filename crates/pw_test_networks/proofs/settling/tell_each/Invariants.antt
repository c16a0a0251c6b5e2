use Rattle.pw_network.specs.Wiring.{wiring}
use Rattle.pw_settle.specs.Sound.{IsSoundFor}
use Rattle.pw_test_networks.specs.Settling.{LeavesFitting}
use Rattle.pw_test_networks.proofs.settling.tell_each.Given as goal

abbrev pub invariant-loop-tell : goal.invariant-loop-tell
invariant-loop-tell g l = record {
  sound : IsSoundFor (wiring l.network) l.store;
  fits : LeavesFitting (wiring l.network) l.fn.store (wiring l.network) l.store;
}
