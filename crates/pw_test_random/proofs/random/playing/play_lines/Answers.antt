use Rattle.pw_test_random.proofs.random.playing.play_lines.Goals as goal

pub loop-place-init : goal.loop-place-init
loop-place-init g c = c.requires.left

pub give_line-requires-clause-left : goal.give_line-requires-clause-left
give_line-requires-clause-left g c = c.loop-place.invariant
