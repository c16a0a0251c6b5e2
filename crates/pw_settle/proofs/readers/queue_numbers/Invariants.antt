use Rattle.pw_settle.proofs.QueuedReaders.{AreQueuedBut}
use Rattle.pw_settle.proofs.readers.queue_numbers.Given as goal

abbrev pub invariant-loop-number : goal.invariant-loop-number
invariant-loop-number g l = record {
  can_next : (goal.iterator-loop-number g).can_next l.number-iterator;
  is_finite : (goal.iterator-loop-number g).is_finite l.number-iterator;
  queued : AreQueuedBut (g.V.Sees.seen l.viewer) l.fn.agenda l.agenda l.fn.numbers l.number-iterator;
}
