use Rattle.pw_test_random.proofs.random.playing.play_through.Goals as goal

pub play_lines-requires : goal.play_lines-requires
play_lines-requires g c = record { left = c.requires.left }
