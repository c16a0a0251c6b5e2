use Rattle.std.proofs.Common.{◌∙◌, ap, SFits, w64, rules, arith}
use Rattle.std.specs.Int.Signed.{le_z}
use Rattle.std.proofs.lemmas.Int.{ints, to_z-of_z}
use Rattle.pw_procs.proofs.Division.{greatest_by_least, greatest_by_greatest}
use Rattle.pw_procs.proofs.bodies.quotients.greatest_quotient.Goals as goal

pub returns-then-t-gt0 : goal.returns-then-t-gt0
returns-then-t-gt0 c = λ q.
    let fits : SFits w64 c.floor.result = search rules in
    let t = to_z-of_z w64 c.args.t c.ranges.t in
    let x = to_z-of_z w64 c.args.x_lo c.ranges.x_lo in
    ap (λ r. le_z q r) (to_z-of_z w64 c.floor.result fits)
    ∙ (rw (x, t) at c.floor.ensures.below q)
    ∙ greatest_by_least c.args.t c.args.x_lo c.args.x_hi q c.requires.positive c.requires.order (omega (arith, ints))

pub returns-else-t-gt0 : goal.returns-else-t-gt0
returns-else-t-gt0 c = λ q.
    let fits : SFits w64 c.floor-else-t-gt0.result = search rules in
    let t = to_z-of_z w64 c.args.t c.ranges.t in
    let x = to_z-of_z w64 c.args.x_hi c.ranges.x_hi in
    ap (λ r. le_z q r) (to_z-of_z w64 c.floor-else-t-gt0.result fits)
    ∙ (rw (x, t) at c.floor-else-t-gt0.ensures.below q)
    ∙ greatest_by_greatest c.args.t c.args.x_lo c.args.x_hi q c.requires.positive c.requires.order (omega (arith, ints))
