use Rattle.std.proofs.Common.{inl}
use Rattle.pw_sessions.proofs.SnapshotLists.{latest_after}
use Rattle.pw_sessions.proofs.workbench.snapshots.remember.Goals as goal

pub returns-clause-ok : goal.returns-clause-ok
returns-clause-ok g c =
    latest_after c.args.beliefs.now c.args.snapshots.now.items c.reserve.new.self.items c.make_room.new.snapshots.items c.put_first.new.snapshots.items
    c.args.values (inl (c.requires, c.reserve.ensures.items)) c.make_room.ensures.spares c.put_first.ensures
