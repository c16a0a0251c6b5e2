use Rattle.std.proofs.Common.{◌≡◌, length}
use Rattle.pw_decl.specs.inside.Fields.{declared}
use Rattle.pw_transcript.specs.Reading.{all_known}
use Rattle.pw_transcript.proofs.choice_text.are_premises.Given as goal

-- all name premises if the remaining ones do
abbrev pub invariant-loop-name : goal.invariant-loop-name
invariant-loop-name g l = all_known (declared l.declaration) l.fn.names ≡ all_known (declared l.declaration) l.names

abbrev pub decreases-loop-name : goal.decreases-loop-name
decreases-loop-name g l = length l.names
