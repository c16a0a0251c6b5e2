use Rattle.std.proofs.Common.{◌<◌}
use Rattle.pw_test_random.proofs.random.entries.Entries.+expand.Given as goal

abbrev pub decreases-expand : goal.decreases-expand
decreases-expand g l = l.depth

abbrev pub invariant-loop-step : goal.invariant-loop-step
invariant-loop-step g l = 0 < l.depth
