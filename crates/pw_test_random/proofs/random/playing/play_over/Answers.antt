use Rattle.std.proofs.Common.{[], refl}
use Rattle.pw_test_random.proofs.random.playing.play_over.Goals as goal

pub play_through-requires : goal.play_through-requires
play_through-requires g c = record { left = ([], refl, c.in_ok-workbench.ensures.left) }
