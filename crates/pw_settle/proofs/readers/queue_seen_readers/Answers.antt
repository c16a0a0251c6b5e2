use Rattle.std.proofs.Common.{◌≡◌, ◌<◌, ◌++◌, ◌∷◌, [], All, length, ap, subst, sym, ◌∙◌, arith}
use Rattle.std.proofs.lemmas.List.Elements.{All-head}
use Rattle.pw_network.specs.Batches.{numbers_in, numbers_of}
use Rattle.pw_network.specs.Readers.{readers_of}
use Rattle.pw_network.specs.Wiring.{wiring}
use Rattle.pw_settle.proofs.QueuedReaders.{all_left, next_below, queued_many, queues_all, queues_readers, readers_below}
use Rattle.pw_settle.proofs.readers.queue_seen_readers.Goals as goal

pub queue_numbers-requires-clause-below : goal.queue_numbers-requires-clause-below
queue_numbers-requires-clause-below g c =
    subst (All (λ n. n < length c.args.agenda.now)) (sym c.in-Some.ensures.some)
    (readers_below (wiring c.args.network.now) c.args.cell (length c.args.agenda.now) c.requires.flags)

pub returns-in-Some-clause-readers : goal.returns-in-Some-clause-readers
returns-in-Some-clause-readers g c =
    queues_all (wiring c.args.network.now) c.args.cell (g.V.Sees.seen c.args.viewer) c.args.agenda.now
    c.queue_numbers.new.agenda c.in-Some.numbers c.in-Some.ensures.some c.queue_numbers.ensures

pub loop-batch-init : goal.loop-batch-init
loop-batch-init g c = record {
  can_next = tt;
  is_finite = tt;
  queued = all_left (g.V.Sees.seen c.args.viewer) c.args.agenda.now (readers_of (wiring c.args.network.now) c.args.cell)
      (numbers_in c.into_iter-batch-iterator.result)
      (ap numbers_in c.into_iter-batch-iterator.ensures.into_iter_gives ∙ c.reader_batches-batch-items.ensures)
      (readers_below (wiring c.args.network.now) c.args.cell (length c.args.agenda.now) c.requires.flags);
}

pub queue_one-requires : goal.queue_one-requires
queue_one-requires g c =
    let so_far = c.loop-batch.invariant.queued in
    let next : numbers_in c.loop-batch.batch-iterator ≡ (c.in-One.number ∷ []) ++ numbers_in c.next.new.self =
    ap numbers_in c.in-Some-batch.ensures.steps ∙ ap (λ b. numbers_of b ++ numbers_in c.next.new.self) c.in-One.is in
    record {
      below = All-head (λ n. n < length c.loop-batch.agenda) c.in-One.number []
          (next_below (g.V.Sees.seen c.args.viewer) c.args.agenda.now c.loop-batch.agenda
          (readers_of (wiring c.args.network.now) c.args.cell) (numbers_in c.loop-batch.batch-iterator) (c.in-One.number ∷ [])
          (numbers_in c.next.new.self) next so_far);
      all = c.requires.all ∙ sym so_far.flags;
    }

pub loop-batch-preserved-in-One : goal.loop-batch-preserved-in-One
loop-batch-preserved-in-One g c =
    let next : numbers_in c.loop-batch.batch-iterator ≡ (c.in-One.number ∷ []) ++ numbers_in c.next.new.self =
    ap numbers_in c.in-Some-batch.ensures.steps ∙ ap (λ b. numbers_of b ++ numbers_in c.next.new.self) c.in-One.is in
    record {
      can_next = tt;
      is_finite = tt;
      queued = queued_many (g.V.Sees.seen c.args.viewer) c.args.agenda.now c.loop-batch.agenda c.queue_one.new.agenda
          (readers_of (wiring c.args.network.now) c.args.cell) (numbers_in c.loop-batch.batch-iterator) (c.in-One.number ∷ [])
          (numbers_in c.next.new.self) next c.loop-batch.invariant.queued c.queue_one.ensures;
    }

pub queue_numbers-requires-in-Many : goal.queue_numbers-requires-in-Many
queue_numbers-requires-in-Many g c =
    let so_far = c.loop-batch.invariant.queued in
    let next : numbers_in c.loop-batch.batch-iterator ≡ c.in-Many.numbers ++ numbers_in c.next.new.self =
    ap numbers_in c.in-Some-batch.ensures.steps ∙ ap (λ b. numbers_of b ++ numbers_in c.next.new.self) c.in-Many.is in
    record {
      below = next_below (g.V.Sees.seen c.args.viewer) c.args.agenda.now c.loop-batch.agenda
          (readers_of (wiring c.args.network.now) c.args.cell) (numbers_in c.loop-batch.batch-iterator) c.in-Many.numbers
          (numbers_in c.next.new.self) next so_far;
      all = c.requires.all ∙ sym so_far.flags;
    }

pub loop-batch-preserved : goal.loop-batch-preserved
loop-batch-preserved g c =
    let next : numbers_in c.loop-batch.batch-iterator ≡ c.in-Many.numbers ++ numbers_in c.next.new.self =
    ap numbers_in c.in-Some-batch.ensures.steps ∙ ap (λ b. numbers_of b ++ numbers_in c.next.new.self) c.in-Many.is in
    record {
      can_next = tt;
      is_finite = tt;
      queued = queued_many (g.V.Sees.seen c.args.viewer) c.args.agenda.now c.loop-batch.agenda c.queue_numbers-in-Many.new.agenda
          (readers_of (wiring c.args.network.now) c.args.cell) (numbers_in c.loop-batch.batch-iterator) c.in-Many.numbers
          (numbers_in c.next.new.self) next c.loop-batch.invariant.queued c.queue_numbers-in-Many.ensures;
    }

pub returns-clause-readers : goal.returns-clause-readers
returns-clause-readers g c =
    queues_readers (wiring c.args.network.now) c.args.cell (g.V.Sees.seen c.args.viewer) c.args.agenda.now
    c.loop-batch.agenda (numbers_in c.loop-batch.batch-iterator) c.loop-batch.invariant.queued (ap numbers_in c.in-None.ensures.steps.0)

pub returns-clause-most : goal.returns-clause-most
returns-clause-most g c = omega (arith, c.loop-batch.invariant.queued.most)

pub returns-clause-least : goal.returns-clause-least
returns-clause-least g c = c.loop-batch.invariant.queued.least
