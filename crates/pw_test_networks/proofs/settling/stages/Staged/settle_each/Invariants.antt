use Rattle.std.specs.Prelude.{IfSome}
use Rattle.pw_network.specs.Wiring.{wiring}
use Rattle.pw_settle.specs.Growth.{IsFitting}
use Rattle.pw_settle.specs.Sound.{IsSoundFor}
use Rattle.pw_test_networks.proofs.settling.stages.Staged.settle_each.Given as goal

abbrev pub invariant-loop-stage : goal.invariant-loop-stage
invariant-loop-stage g l = record {
  sound : IsSoundFor (wiring l.network) l.store;
  fits : IfSome l.last (IsFitting (wiring l.network) l.store);
}
