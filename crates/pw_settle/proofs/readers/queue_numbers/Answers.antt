use Rattle.std.proofs.Common.{◌<◌, [], ◌∷◌, length, sym, ◌∙◌}
use Rattle.std.proofs.lemmas.List.Elements.{All-head}
use Rattle.pw_settle.proofs.QueuedReaders.{all_left, next_below, queued_many, queues_numbers}
use Rattle.pw_settle.proofs.readers.queue_numbers.Goals as goal

pub loop-number-init : goal.loop-number-init
loop-number-init g c = record {
  can_next = tt;
  is_finite = tt;
  queued = all_left (g.V.Sees.seen c.args.viewer) c.args.agenda.now c.args.numbers c.into_iter-number-iterator.result
      c.into_iter-number-iterator.ensures.into_iter_gives c.requires.below;
}

pub queue_one-requires : goal.queue_one-requires
queue_one-requires g c =
    let so_far = c.loop-number.invariant.queued in
    record {
      below = All-head (λ n. n < length c.loop-number.agenda) c.in-Some.number []
          (next_below (g.V.Sees.seen c.args.viewer) c.args.agenda.now c.loop-number.agenda c.args.numbers
          c.loop-number.number-iterator (c.in-Some.number ∷ []) c.next.new.self c.in-Some.ensures.steps so_far);
      all = c.requires.all ∙ sym so_far.flags;
    }

pub loop-number-preserved : goal.loop-number-preserved
loop-number-preserved g c = record {
  can_next = tt;
  is_finite = tt;
  queued = queued_many (g.V.Sees.seen c.args.viewer) c.args.agenda.now c.loop-number.agenda c.queue_one.new.agenda c.args.numbers c.loop-number.number-iterator
      (c.in-Some.number ∷ []) c.next.new.self c.in-Some.ensures.steps c.loop-number.invariant.queued c.queue_one.ensures;
}

pub returns : goal.returns
returns g c =
    queues_numbers (g.V.Sees.seen c.args.viewer) c.args.agenda.now c.loop-number.agenda c.args.numbers c.loop-number.number-iterator
    c.loop-number.invariant.queued c.in-None.ensures.steps.0
