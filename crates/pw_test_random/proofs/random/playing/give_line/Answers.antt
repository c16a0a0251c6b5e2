use Rattle.pw_test_random.proofs.random.playing.give_line.Goals as goal

pub reply_to-reply-requires-clause-left : goal.reply_to-reply-requires-clause-left
reply_to-reply-requires-clause-left g c = c.requires.left

pub shown_before-shown-requires : goal.shown_before-shown-requires
shown_before-shown-requires g c = record { left = c.reply_to-reply.ensures }
