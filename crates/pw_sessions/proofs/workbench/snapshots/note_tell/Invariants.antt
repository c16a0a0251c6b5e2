use Rattle.pw_sessions.specs.Snapshot.{IsAfterTell}
use Rattle.pw_sessions.proofs.NotedSnapshots.{AreNotedBelow}
use Rattle.pw_sessions.proofs.workbench.snapshots.note_tell.Given as goal

abbrev pub invariant-loop-snapshot : goal.invariant-loop-snapshot
invariant-loop-snapshot g l = AreNotedBelow (IsAfterTell l.cell l.fact) l.fn.snapshots l.snapshots l.snapshot-index
