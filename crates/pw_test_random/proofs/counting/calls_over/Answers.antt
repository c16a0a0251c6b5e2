use Rattle.std.proofs.Common.{refl}
use Rattle.pw_test_random.proofs.counting.calls_over.Goals as goal

pub loop-line-init : goal.loop-line-init
loop-line-init g c = c.requires.left

pub calls_of-of_line-requires-clause-left : goal.calls_of-of_line-requires-clause-left
calls_of-of_line-requires-clause-left g c = c.loop-line.invariant

pub loop-line-preserved : goal.loop-line-preserved
loop-line-preserved g c = c.calls_of-of_line.ensures
