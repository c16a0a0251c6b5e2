use Rattle.std.proofs.Common.{◌≡◌, ℕ, List, ◌++◌, length}
use Rattle.pw_info.specs.Passing.{IsPassed}
use Rattle.pw_info.proofs.output.put_rest.Given as goal

-- what was put so far, followed by the rest, is what is to be put
abbrev pub invariant-loop-rest : goal.invariant-loop-rest
invariant-loop-rest g l = record {
  taken : List ℕ;
  whole : l.fn.bytes ≡ taken ++ l.rest;
  written : IsPassed g.O.Output.passes g.O.Output.has_failed l.fn.output l.output taken;
}

abbrev pub decreases-loop-rest : goal.decreases-loop-rest
decreases-loop-rest g l = length l.rest
