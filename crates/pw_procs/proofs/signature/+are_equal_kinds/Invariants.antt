use Rattle.std.proofs.Common.{length}
use Rattle.pw_procs.proofs.signature.+are_equal_kinds.Given as goal

abbrev pub decreases-are_equal_kinds : goal.decreases-are_equal_kinds
decreases-are_equal_kinds l = length l.kinds.now
