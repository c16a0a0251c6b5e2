use Rattle.pw_network.specs.Batches.{numbers_in}
use Rattle.pw_network.specs.Readers.{readers_of}
use Rattle.pw_network.specs.Wiring.{wiring}
use Rattle.pw_settle.proofs.QueuedReaders.{AreQueuedBut}
use Rattle.pw_settle.proofs.readers.queue_seen_readers.Given as goal

abbrev pub invariant-loop-batch : goal.invariant-loop-batch
invariant-loop-batch g l = record {
  can_next : (goal.iterator-loop-batch g).can_next l.batch-iterator;
  is_finite : (goal.iterator-loop-batch g).is_finite l.batch-iterator;
  queued : AreQueuedBut (g.V.Sees.seen l.viewer) l.fn.agenda l.agenda (readers_of (wiring l.network) l.cell) (numbers_in l.batch-iterator);
}
