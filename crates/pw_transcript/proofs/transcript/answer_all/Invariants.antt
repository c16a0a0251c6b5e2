use Rattle.std.proofs.Common.{◌≡◌, ◌≤◌, ◌+◌, ◌-◌, ℕ, List, [], length}
use Rattle.pw_decl.specs.inside.Fields.{declared}
use Rattle.pw_transcript.specs.inside.Running.{progress}
use Rattle.pw_transcript.specs.Limits.{most_bytes}
use Rattle.pw_transcript.specs.inside.Gathering.{held_of, GatheredPasses}
use Rattle.pw_transcript.specs.inside.Running.{IsRunning, AnsweredSoFar}
use Rattle.pw_transcript.proofs.transcript.answer_all.Given as goal

-- the bytes taken so far are answered, and all replies are passed on
abbrev pub invariant-loop-taken : goal.invariant-loop-taken
invariant-loop-taken g l = record {
  bytes : List ℕ;
  taken : g.I.Input.takes l.fn.input bytes l.input;
  so_far : AnsweredSoFar (GatheredPasses g.O.Output.passes) (declared l.declaration) l.fn.output l.output (progress l.so_far) bytes;
  count : length bytes ≡ l.total;
  bound : l.total ≤ most_bytes;
  passed_on : held_of l.output ≡ [];
  running : IsRunning (declared l.declaration) (progress l.so_far);
}

abbrev pub decreases-loop-taken : goal.decreases-loop-taken
decreases-loop-taken g l = most_bytes + 1 - l.total
