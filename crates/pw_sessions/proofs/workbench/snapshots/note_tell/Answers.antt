use Rattle.std.proofs.Common.{◌≡◌, ◌<◌, length, refl, sym, subst, arith}
use Rattle.pw_info.specs.Information.{kind_of}
use Rattle.pw_settle.specs.Settled.{info_at}
use Rattle.pw_sessions.specs.Snapshot.{IsAfterTell, Snapshot}
use Rattle.pw_sessions.proofs.NotedSnapshots.{all_become, noted_next}
use Rattle.pw_sessions.proofs.workbench.snapshots.note_tell.Goals as goal

pub note_tell-requires-clause-kind : goal.note_tell-requires-clause-kind
note_tell-requires-clause-kind g c =
    let there : c.loop-snapshot.snapshot-index < length c.args.snapshots.now =
    omega (arith, c.loop-snapshot-test.true, c.loop-snapshot.auto.snapshots) in
    subst (λ (s : Snapshot). kind_of (info_at s.values.infos c.args.cell) ≡ kind_of c.args.fact.now.info)
    (sym (c.loop-snapshot.invariant.rest c.loop-snapshot.snapshot-index c.snapshot-item.result (omega arith)))
    (c.requires c.loop-snapshot.snapshot-index c.snapshot-item.result there).1

pub loop-snapshot-preserved : goal.loop-snapshot-preserved
loop-snapshot-preserved g c =
    noted_next (IsAfterTell c.args.cell c.args.fact.now) c.args.snapshots.now c.loop-snapshot.snapshots _ c.loop-snapshot.snapshot-index
    c.snapshot-item.result c.note_tell.new.self c.loop-snapshot.invariant
    (omega (arith, c.loop-snapshot-test.true, c.loop-snapshot.auto.snapshots)) refl c.note_tell.ensures

pub returns : goal.returns
returns g c =
    all_become (IsAfterTell c.args.cell c.args.fact.now) c.args.snapshots.now c.loop-snapshot.snapshots c.loop-snapshot.snapshot-index
    c.loop-snapshot.auto.snapshots c.loop-snapshot-test.false c.loop-snapshot.invariant
