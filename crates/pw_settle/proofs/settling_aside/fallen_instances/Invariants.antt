use Rattle.pw_network.specs.Wiring.{wiring}
use Rattle.pw_settle.proofs.AsideAgendas.{AreMetTo}
use Rattle.pw_settle.proofs.settling_aside.fallen_instances.Given as goal

abbrev pub invariant-loop-number : goal.invariant-loop-number
invariant-loop-number g l = AreMetTo (wiring l.network) l.visible l.was_visible l.before l.now l.number l.agenda
