use Rattle.std.proofs.Common.{◌≡◌, [], false, length}
use Rattle.pw_transcript.specs.inside.Gathering.{Gathers}
use Rattle.pw_transcript.proofs.gathered.Gathered.flush.Given as goal

-- the output is the same one, which has not failed, and what it was passed so far came before what
-- was held
abbrev pub invariant-loop-self : goal.invariant-loop-self
invariant-loop-self g l = record {
  same : l.self.output.ghost_name ≡ l.fn.self.output.ghost_name;
  passed : Gathers g.O.Output.passes l.fn.self.output.now l.self.output.now l.fn.self.held l.self.held [];
  works : g.O.Output.has_failed l.self.output.now ≡ false;
}

abbrev pub decreases-loop-self : goal.decreases-loop-self
decreases-loop-self g l = length l.self.held
