use Rattle.std.proofs.Common.{IfSome}
use Rattle.pw_sessions.specs.inside.Steps.{CanBeSpared}
use Rattle.pw_sessions.proofs.workbench.snapshots.place_to_spare.Given as goal

abbrev pub invariant-loop-back : goal.invariant-loop-back
invariant-loop-back g l = IfSome l.spare (CanBeSpared l.beliefs l.snapshots)
