use Rattle.std.proofs.Common.{◌≡◌, List, ℕ, ◌++◌, length}
use Rattle.pw_decl.specs.inside.Fields.{declared}
use Rattle.pw_transcript.specs.inside.Running.{progress}
use Rattle.pw_transcript.specs.inside.Running.{IsRunning, GoesOn}
use Rattle.pw_transcript.proofs.progress.Progress.feed.Given as goal

-- the bytes before the rest are answered
abbrev pub invariant-loop-rest : goal.invariant-loop-rest
invariant-loop-rest g l = record {
  done : List ℕ;
  whole : l.fn.bytes ≡ done ++ l.rest;
  so_far : GoesOn g.O.Output.passes (declared l.declaration) (progress l.fn.self) l.fn.output done (progress l.self) l.output;
  running : IsRunning (declared l.declaration) (progress l.self);
}

abbrev pub decreases-loop-rest : goal.decreases-loop-rest
decreases-loop-rest g l = length l.rest
