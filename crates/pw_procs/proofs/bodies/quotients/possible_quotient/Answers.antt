use Rattle.std.proofs.Common.{◌∙◌, ap, SFits, w64, rules, arith}
use Rattle.std.proofs.lemmas.Int.{ints, to_z-of_z}
use Rattle.pw_info.specs.declared.info.Info.TheVariants as info
use Rattle.pw_procs.proofs.Division.{positive_quotient, negative_quotient, any_quotient}
use Rattle.pw_procs.proofs.bodies.quotients.possible_quotient.Goals as goal

pub returns-then-x_lo-gt0 : goal.returns-then-x_lo-gt0
returns-then-x_lo-gt0 c =
    let t_lo : SFits w64 c.ends-t_lo.result.0 = search rules in
    let t_hi : SFits w64 c.ends-t_lo.result.1 = search rules in
    let x_lo : SFits w64 c.ends-x_lo.result.0 = search rules in
    let x_hi : SFits w64 c.ends-x_lo.result.1 = search rules in
    positive_quotient c.args.t c.args.x c.between.result c.ends-t_lo.result.0 c.ends-t_lo.result.1 c.ends-x_lo.result.0 c.ends-x_lo.result.1
    c.ends-t_lo.ensures.least c.ends-t_lo.ensures.greatest c.ends-x_lo.ensures.least c.ends-x_lo.ensures.greatest (omega (arith, ints))
    (simp to_z-of_z at c.between.ensures)

pub returns-then-x_hi-lt0 : goal.returns-then-x_hi-lt0
returns-then-x_hi-lt0 c =
    negative_quotient c.args.t c.args.x c.between-then-x_hi-lt0.result c.ends-t_lo.result.0 c.ends-t_lo.result.1 c.ends-x_lo.result.0 c.ends-x_lo.result.1 _ _ _ _
    c.ends-t_lo.ensures.least c.ends-t_lo.ensures.greatest c.ends-x_lo.ensures.least c.ends-x_lo.ensures.greatest (omega (arith, ints))
    c.between-then-x_hi-lt0.ensures (omega (arith, ints)) (omega (arith, ints)) (omega (arith, ints)) (omega (arith, ints))

pub returns : goal.returns
returns c = ap info.Interval c.whole.ensures.exact
    ∙ any_quotient c.args.t c.args.x c.ends-t_lo.result.0 c.ends-x_lo.result.0 c.ends-x_lo.result.1 c.ends-t_lo.ensures.least c.ends-x_lo.ensures.least c.ends-x_lo.ensures.greatest
    (omega (arith, ints)) (omega (arith, ints))
