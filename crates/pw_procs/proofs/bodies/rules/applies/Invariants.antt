use Rattle.std.proofs.Common.{◌≡◌, drop}
use Rattle.pw_procs.specs.Rules.{all_include}
use Rattle.pw_procs.proofs.bodies.rules.applies.Given as goal

-- the guards so far include their inputs
abbrev pub invariant-loop-place : goal.invariant-loop-place
invariant-loop-place l = all_include l.guards l.inputs ≡ all_include (drop l.place l.guards) (drop l.place l.inputs)
