use Rattle.std.proofs.Common.{◌≡◌, take}
use Rattle.pw_cells.specs.Cells.{unsubsumed}
use Rattle.pw_cells.proofs.subsumed_facts.first_subsumed.Given as goal

abbrev pub invariant-loop-place : goal.invariant-loop-place
invariant-loop-place g l = take l.place l.facts ≡ unsubsumed l.fact (take l.place l.facts)
