use Rattle.std.proofs.Common.{length}
use Rattle.pw_procs.proofs.signature.+are_kinds_in.Given as goal

abbrev pub decreases-are_kinds_in : goal.decreases-are_kinds_in
decreases-are_kinds_in l = length l.slots.now
