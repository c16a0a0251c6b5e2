use Rattle.std.proofs.Common.{◌≡◌, ◌∷◌, []}
use Rattle.std.specs.FinSet.{from_list}
use Rattle.pw_reasons.specs.inside.Families.{sets_of}
use Rattle.pw_reasons.proofs.family.chain.Given as goal

-- the set of the premises so far
abbrev pub invariant-loop-premise : goal.invariant-loop-premise
invariant-loop-premise g l = sets_of l.family ≡ from_list l.yielded ∷ []
