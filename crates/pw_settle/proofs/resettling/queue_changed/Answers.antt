use Rattle.std.proofs.Common.{◌+◌, ◌<◌, sym, subst, arith, length, map}
use Rattle.pw_settle.specs.Calls.{is_instance_visible}
use Rattle.pw_network.specs.Wiring.{wiring}
use Rattle.pw_settle.specs.inside.Queueing.{HasChanged, QueuesReaders}
use Rattle.pw_settle.proofs.NewInstances.{all_looked_at, passed, queued}
use Rattle.pw_settle.proofs.resettling.queue_changed.Goals as goal
use Rattle.pw_settle.proofs.resettling.queue_changed.Goals.{then-has_changed, else-has_changed}

pub loop-cell-preserved : goal.loop-cell-preserved
loop-cell-preserved g c = record {
  queues = elim c.if-has_changed.branch [
    | then-has_changed w ↦
        subst (QueuesReaders (wiring c.args.network.now) (map (is_instance_visible c.args.worldview.now) (wiring c.args.network.now).attached)
        (λ cell. (cell < c.loop-cell.cell + 1) × HasChanged c.args.before.now c.args.now.now cell) c.args.agenda.now) (sym w.agenda-is)
        (queued (wiring c.args.network.now) (map (is_instance_visible c.args.worldview.now) (wiring c.args.network.now).attached) c.args.agenda.now c.args.before.now c.args.now.now c.loop-cell.agenda c.loop-cell.cell
        c.loop-cell.invariant.queues w.queue_visible_readers.new.agenda (c.has_changed.ensures.0 w.if-has_changed.true) w.queue_visible_readers.ensures.readers)
    | else-has_changed w ↦
        subst (QueuesReaders (wiring c.args.network.now) (map (is_instance_visible c.args.worldview.now) (wiring c.args.network.now).attached)
        (λ cell. (cell < c.loop-cell.cell + 1) × HasChanged c.args.before.now c.args.now.now cell) c.args.agenda.now) (sym w.agenda-is)
        (passed (wiring c.args.network.now) (map (is_instance_visible c.args.worldview.now) (wiring c.args.network.now).attached) c.args.agenda.now c.args.before.now c.args.now.now c.loop-cell.agenda c.loop-cell.cell
        c.loop-cell.invariant.queues (λ has. let flag = c.has_changed.ensures.1 has in let not = w.if-has_changed.false in absurd (cc)))
  ];
  most = omega (arith, c.loop-cell-test.true, c.cells-cell-end.ensures.count, c.requires.cells);
}

pub returns : goal.returns
returns g c =
    all_looked_at (wiring c.args.network.now) (map (is_instance_visible c.args.worldview.now) (wiring c.args.network.now).attached) c.args.agenda.now c.args.before.now c.args.now.now c.loop-cell.agenda c.loop-cell.cell
    c.loop-cell.invariant.queues (length c.args.now.now) c.loop-cell.invariant.most
    (omega (arith, c.loop-cell-test.false, c.cells-cell-end.ensures.count, c.requires.cells))
