use Rattle.pw_network.specs.Wiring.{wiring}
use Rattle.pw_settle.specs.Sound.{IsSoundFor}
use Rattle.pw_test_networks.proofs.settling.Settling.add_answers.Given as goal

abbrev pub invariant-loop-worldview : goal.invariant-loop-worldview
invariant-loop-worldview g l = IsSoundFor (wiring l.network) l.store
