use Rattle.std.proofs.Common.{◌∙◌, ap, SFits, w64, rules, arith}
use Rattle.std.specs.Int.Signed.{le_z}
use Rattle.std.proofs.lemmas.Int.{ints, to_z-of_z}
use Rattle.pw_procs.proofs.Division.{least_by_greatest, least_by_least}
use Rattle.pw_procs.proofs.bodies.quotients.least_quotient.Goals as goal

pub returns-then-t-gt0 : goal.returns-then-t-gt0
returns-then-t-gt0 c = λ q.
    let fits : SFits w64 c.ceil.result = search rules in
    let t = to_z-of_z w64 c.args.t c.ranges.t in
    let x = to_z-of_z w64 c.args.x_hi c.ranges.x_hi in
    ap (λ r. le_z r q) (to_z-of_z w64 c.ceil.result fits)
    ∙ (rw (t, x) at c.ceil.ensures q)
    ∙ least_by_greatest c.args.t c.args.x_lo c.args.x_hi q c.requires.positive c.requires.order (omega (arith, ints))

pub returns-else-t-gt0 : goal.returns-else-t-gt0
returns-else-t-gt0 c = λ q.
    let fits : SFits w64 c.ceil-else-t-gt0.result = search rules in
    let t = to_z-of_z w64 c.args.t c.ranges.t in
    let x = to_z-of_z w64 c.args.x_lo c.ranges.x_lo in
    ap (λ r. le_z r q) (to_z-of_z w64 c.ceil-else-t-gt0.result fits)
    ∙ (rw (t, x) at c.ceil-else-t-gt0.ensures q)
    ∙ least_by_least c.args.t c.args.x_lo c.args.x_hi q c.requires.positive c.requires.order (omega (arith, ints))
