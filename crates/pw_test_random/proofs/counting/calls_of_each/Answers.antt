use Rattle.std.proofs.Common.{[], refl}
use Rattle.pw_test_random.proofs.counting.calls_of_each.Goals as goal

pub calls_over-requires : goal.calls_over-requires
calls_over-requires g c = record { left = ([], refl, c.in_ok-workbench.ensures.left) }
