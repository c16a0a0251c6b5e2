use Rattle.std.proofs.Common.{◌∙◌, ◌&&◌, ◌||◌, ◌*ℤ◌, Bool, ap, SFits, w64, rules}
use Rattle.std.specs.Int.Signed.{le_z}
use Rattle.std.proofs.lemmas.Int.{to_z-of_z}
use Rattle.pw_kinds.specs.Ranges.{is_in_interval_range}
use Rattle.pw_procs.proofs.bodies.quotients.between.Goals as goal

pub returns : goal.returns
returns c = λ q.
    let low : SFits w64 c.least_quotient.result = search rules in
    let high : SFits w64 c.greatest_quotient.result = search rules in
    let lo = to_z-of_z w64 c.least_quotient.result low in
    let hi = to_z-of_z w64 c.greatest_quotient.result high in
    let t_lo = to_z-of_z w64 c.args.t_lo c.ranges.t_lo in
    let t_hi = to_z-of_z w64 c.args.t_hi c.ranges.t_hi in
    let x_lo = to_z-of_z w64 c.args.x_lo c.ranges.x_lo in
    let x_hi = to_z-of_z w64 c.args.x_hi c.ranges.x_hi in
    (rw (lo, hi) at c.from_to.ensures q)
    ∙ ap (λ (b : Bool). is_in_interval_range q && b && le_z q c.greatest_quotient.result) (rw (t_lo, x_lo, x_hi) at c.least_quotient.ensures q)
    ∙ ap (λ (b : Bool). is_in_interval_range q && (le_z c.args.t_lo (q *ℤ c.args.x_lo) || le_z c.args.t_lo (q *ℤ c.args.x_hi)) && b) (rw (t_hi, x_lo, x_hi) at c.greatest_quotient.ensures q)
