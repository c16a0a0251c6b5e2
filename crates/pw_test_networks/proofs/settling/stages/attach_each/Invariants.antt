use Rattle.pw_network.specs.Wiring.{wiring}
use Rattle.pw_settle.specs.Sound.{IsSoundFor}
use Rattle.pw_test_networks.specs.Settling.{LeavesFitting}
use Rattle.pw_test_networks.proofs.settling.stages.attach_each.Given as goal

abbrev pub invariant-loop-attachment : goal.invariant-loop-attachment
invariant-loop-attachment g l = record {
  sound : IsSoundFor (wiring l.network) l.store;
  fits : LeavesFitting (wiring l.fn.network) l.fn.store (wiring l.network) l.store;
}
