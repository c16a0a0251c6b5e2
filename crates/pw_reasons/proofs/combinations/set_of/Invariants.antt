use Rattle.std.proofs.Common.{◌≡◌, take}
use Rattle.std.specs.FinSet as set
use Rattle.pw_reasons.proofs.combinations.set_of.Given as goal

-- the premises so far
abbrev pub invariant-loop-premise : goal.invariant-loop-premise
invariant-loop-premise l = l.set ≡ set.from_list (take l.premise-index l.premises)
