use Rattle.std.proofs.Common.{length}
use Rattle.pw_procs.proofs.signature.+same_kind.Given as goal

abbrev pub decreases-same_kind : goal.decreases-same_kind
decreases-same_kind l = length l.slots.now
