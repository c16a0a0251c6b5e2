use Rattle.pw_procs.proofs.SlotKinds.{equal_sets}
use Rattle.pw_procs.proofs.signature.are_equal.Goals as goal

pub returns-then-one-another : goal.returns-then-one-another
returns-then-one-another c = equal_sets _ _ _ _ c.in-Members-Members.is-0 c.in-Members-Members.is-1 c.if-one-another.true
