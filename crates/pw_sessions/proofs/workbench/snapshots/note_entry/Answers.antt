use Rattle.std.proofs.Common.{◌≡◌, refl, arith}
use Rattle.pw_sessions.specs.Snapshot.{after_entry}
use Rattle.pw_sessions.proofs.NotedSnapshots.{noted_all, noted_next}
use Rattle.pw_sessions.proofs.workbench.snapshots.note_entry.Goals as goal

pub loop-snapshot-preserved : goal.loop-snapshot-preserved
loop-snapshot-preserved g c =
    noted_next (λ x y. y ≡ after_entry c.args.support.now x) c.args.snapshots.now c.loop-snapshot.snapshots _ c.loop-snapshot.snapshot-index
    c.snapshot-item.result c.note_entry.new.self c.loop-snapshot.invariant
    (omega (arith, c.loop-snapshot-test.true, c.loop-snapshot.auto.snapshots)) refl c.note_entry.ensures

pub returns : goal.returns
returns g c =
    noted_all (after_entry c.args.support.now) c.args.snapshots.now c.loop-snapshot.snapshots c.loop-snapshot.snapshot-index c.loop-snapshot.auto.snapshots
    c.loop-snapshot-test.false c.loop-snapshot.invariant
