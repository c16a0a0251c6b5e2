use Rattle.std.proofs.Common.{◌≡◌}
use Rattle.pw_sessions.specs.Snapshot.{after_entry}
use Rattle.pw_sessions.proofs.NotedSnapshots.{AreNotedBelow}
use Rattle.pw_sessions.proofs.workbench.snapshots.note_entry.Given as goal

abbrev pub invariant-loop-snapshot : goal.invariant-loop-snapshot
invariant-loop-snapshot g l = AreNotedBelow (λ x y. y ≡ after_entry l.support x) l.fn.snapshots l.snapshots l.snapshot-index
