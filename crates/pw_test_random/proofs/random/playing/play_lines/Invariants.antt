use Rattle.pw_decl.specs.inside.Fields.{declared}
use Rattle.pw_sessions.specs.inside.Fields.{state}
use Rattle.pw_transcript.specs.inside.Answering.{IsLeft}
use Rattle.pw_test_random.proofs.random.playing.play_lines.Given as goal

abbrev pub invariant-loop-place : goal.invariant-loop-place
invariant-loop-place g l = IsLeft (declared l.declaration) l.number (state l.workbench)
