use Rattle.pw_decl.specs.inside.Fields.{declared}
use Rattle.pw_sessions.specs.inside.Fields.{state}
use Rattle.pw_transcript.specs.inside.Answering.{IsLeft}
use Rattle.pw_test_random.proofs.counting.calls_over.Given as goal

abbrev pub invariant-loop-line : goal.invariant-loop-line
invariant-loop-line g l = IsLeft (declared l.declaration) l.number (state l.workbench)
