use Rattle.std.proofs.Common.{w64, arith}
use Rattle.std.proofs.lemmas.Int.{ints, to_z-of_z}
use Rattle.pw_procs.proofs.Division.{ceil_is}
use Rattle.pw_procs.proofs.bodies.quotients.ceil.Goals as goal

pub returns : goal.returns
returns c = ceil_is c.args.t c.args.x _ _ c.floor.result _ c.floor.ensures.below (to_z-of_z w64 c.args.x c.ranges.x) (omega (arith, ints)) (omega (arith, ints))
