use Rattle.std.proofs.Common.{arith}
use Rattle.std.proofs.lemmas.Int.{ints}
use Rattle.pw_procs.proofs.OnlyValues.{only_end}
use Rattle.pw_procs.proofs.bodies.only.only_number.Goals as goal

pub returns : goal.returns
returns c = only_end c.args.part c.lo-number.result c.hi.result _ c.lo-number.ensures.least c.hi.ensures.greatest (omega (arith, ints)) (omega (arith, ints))
