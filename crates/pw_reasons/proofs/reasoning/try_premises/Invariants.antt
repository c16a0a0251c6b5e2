use Rattle.std.proofs.Common.{◌≡◌}
use Rattle.pw_network.specs.Wiring.{wiring}
use Rattle.pw_settle.specs.Settled.{info_at}
use Rattle.pw_settle.specs.Values.{value_in}
use Rattle.pw_reasons.specs.inside.Reasoning.{AreEnough, AreSettledLast}
use Rattle.pw_reasons.proofs.ReasonLemmas.{left_after}
use Rattle.pw_reasons.proofs.reasoning.try_premises.Given as goal

abbrev pub invariant-loop-premise : goal.invariant-loop-premise
invariant-loop-premise g l = record {
  left : l.left.premises ≡ left_after (λ w. value_in (wiring l.fn.network) l.fn.store w l.fn.cell) l.fn.settled.worldview l.yielded;
  enough : AreEnough (wiring l.fn.network) l.fn.store l.fn.cell (info_at l.fn.settled.infos l.fn.cell) l.left.premises l.left.support;
  last : AreSettledLast (wiring l.fn.network) l.fn.store l.last;
  same : l.store ≡ l.fn.store;
}
