use Rattle.std.proofs.Common.{◌≡◌, drop}
use Rattle.std.specs.List.{list_all}
use Rattle.pw_procs.specs.Values.{is_possible}
use Rattle.pw_procs.proofs.bodies.rules.are_possible.Given as goal

-- some value is possible of the inputs so far
abbrev pub invariant-loop-input : goal.invariant-loop-input
invariant-loop-input l = list_all is_possible l.inputs ≡ list_all is_possible (drop l.input-index l.inputs)
