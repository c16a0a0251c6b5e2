use Rattle.std.proofs.Common.{◌+◌, ◌<◌, List, sym, subst, arith, ℕ, ◌≤◌, length, map, take}
use Rattle.pw_settle.specs.Calls.{is_instance_visible}
use Rattle.std.proofs.lemmas.List.{length-take-le}
use Rattle.pw_info.specs.declared.info.Info.{Info}
use Rattle.pw_network.specs.Wiring.{wiring}
use Rattle.pw_settle.specs.inside.Queueing.{QueuesReaders}
use Rattle.pw_settle.proofs.NewInstances.{IsChangedBelow, all_looked_at, none_changed, passed, queued}
use Rattle.pw_settle.proofs.QueuedNews.{first_unchanged, flagged_unchanged, unflagged_changed}
use Rattle.pw_settle.proofs.resettling_since.queue_new_cells.Goals as goal
use Rattle.pw_settle.proofs.resettling_since.queue_new_cells.Goals.{then-not-is_nothing, else-not-is_nothing}

pub loop-cell-init : goal.loop-cell-init
loop-cell-init g c = record {
  queues = none_changed (wiring c.args.network.now) (map (is_instance_visible c.args.worldview.now) (wiring c.args.network.now).attached) c.args.agenda.now
      (take c.args.first c.args.now.now) c.args.now.now c.args.first (λ cell below has. first_unchanged c.args.now.now c.args.first cell c.requires.more below has);
  least = omega arith;
  most = c.requires.more;
}

-- the cell is past the first ones
past : (now : List Info) (first cell : ℕ) → first ≤ length now → first ≤ cell → length (take first now) ≤ cell
past now first cell within least = omega (arith, length-take-le first now within, least)

pub loop-cell-preserved : goal.loop-cell-preserved
loop-cell-preserved g c =
    let there : c.loop-cell.cell < length c.args.now.now = omega (arith, c.loop-cell-test.true, c.cells-cells.ensures.count, c.requires.cells) in
    record {
      queues = elim c.if-not-is_nothing.branch [
        | then-not-is_nothing w ↦
            subst (QueuesReaders (wiring c.args.network.now) (map (is_instance_visible c.args.worldview.now) (wiring c.args.network.now).attached)
            (IsChangedBelow (wiring c.args.network.now) (map (is_instance_visible c.args.worldview.now) (wiring c.args.network.now).attached) c.args.agenda.now (take c.args.first c.args.now.now) c.args.now.now (c.loop-cell.cell + 1)) c.args.agenda.now)
            (sym w.agenda-is)
            (queued (wiring c.args.network.now) (map (is_instance_visible c.args.worldview.now) (wiring c.args.network.now).attached) c.args.agenda.now (take c.args.first c.args.now.now) c.args.now.now c.loop-cell.agenda c.loop-cell.cell
            c.loop-cell.invariant.queues w.queue_visible_readers.new.agenda
            (unflagged_changed (take c.args.first c.args.now.now) c.args.now.now c.loop-cell.cell c.index-now-cell.result c.index-now-cell.is there (past c.args.now.now c.args.first c.loop-cell.cell c.requires.more c.loop-cell.invariant.least)
            c.is_nothing.result c.is_nothing.ensures w.if-not-is_nothing.true)
            w.queue_visible_readers.ensures.readers)
        | else-not-is_nothing w ↦
            subst (QueuesReaders (wiring c.args.network.now) (map (is_instance_visible c.args.worldview.now) (wiring c.args.network.now).attached)
            (IsChangedBelow (wiring c.args.network.now) (map (is_instance_visible c.args.worldview.now) (wiring c.args.network.now).attached) c.args.agenda.now (take c.args.first c.args.now.now) c.args.now.now (c.loop-cell.cell + 1)) c.args.agenda.now)
            (sym w.agenda-is)
            (passed (wiring c.args.network.now) (map (is_instance_visible c.args.worldview.now) (wiring c.args.network.now).attached) c.args.agenda.now (take c.args.first c.args.now.now) c.args.now.now c.loop-cell.agenda c.loop-cell.cell
            c.loop-cell.invariant.queues
            (flagged_unchanged (take c.args.first c.args.now.now) c.args.now.now c.loop-cell.cell c.index-now-cell.result c.index-now-cell.is there (past c.args.now.now c.args.first c.loop-cell.cell c.requires.more c.loop-cell.invariant.least)
            c.is_nothing.result c.is_nothing.ensures w.if-not-is_nothing.false))
      ];
      least = omega (arith, c.loop-cell.invariant.least);
      most = omega (arith, there);
    }

pub returns : goal.returns
returns g c =
    all_looked_at (wiring c.args.network.now) (map (is_instance_visible c.args.worldview.now) (wiring c.args.network.now).attached) c.args.agenda.now (take c.args.first c.args.now.now) c.args.now.now c.loop-cell.agenda c.loop-cell.cell
    c.loop-cell.invariant.queues (length c.args.now.now) c.loop-cell.invariant.most
    (omega (arith, c.loop-cell-test.false, c.cells-cells.ensures.count, c.requires.cells))
