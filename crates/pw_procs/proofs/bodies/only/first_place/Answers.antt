use Rattle.std.proofs.Common.{arith}
use Rattle.pw_procs.proofs.OnlyValues.{none_below}
use Rattle.pw_procs.proofs.bodies.only.first_place.Goals as goal

pub returns-clause-none : goal.returns-clause-none
returns-clause-none c = none_below c.args.part c.loop-place.place (omega arith) c.loop-place.invariant
