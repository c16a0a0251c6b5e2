use Rattle.pw_network.specs.Wiring.{wiring}
use Rattle.pw_sessions.proofs.WrittenLemmas.{AreLeft}
use Rattle.pw_sessions.proofs.workbench.questions.is_written_by.Given as goal

abbrev pub invariant-loop-number : goal.invariant-loop-number
invariant-loop-number g l = record {
  can_next : (goal.iterator-loop-number g).can_next l.number-iterator;
  is_finite : (goal.iterator-loop-number g).is_finite l.number-iterator;
  left : AreLeft (wiring l.network).attached l.cell l.worldview l.number-iterator;
}
