use Rattle.std.proofs.Common.{◌∙◌, arith}
use Rattle.std.proofs.lemmas.Int.{ints, clamps}
use Rattle.pw_kinds.proofs.Intervals.{meet_crossed, meet_between, meet_between_values, meet_values}
use Rattle.pw_kinds.proofs.interval.Interval.meet.Goals as goal

pub returns-then-hi-lo-clause-values : goal.returns-then-hi-lo-clause-values
returns-then-hi-lo-clause-values c = meet_values c.args.self c.args.other c.empty.result (c.empty.ensures.exact ∙ meet_crossed c.args.self c.args.other c.max-lo.result c.min-hi.result (omega (arith, ints, clamps)) (omega (arith, ints, clamps)) (omega (arith, ints)))

pub returns-then-hi-lo-clause-exact : goal.returns-then-hi-lo-clause-exact
returns-then-hi-lo-clause-exact c = c.empty.ensures.exact ∙ meet_crossed c.args.self c.args.other c.max-lo.result c.min-hi.result (omega (arith, ints, clamps)) (omega (arith, ints, clamps)) (omega (arith, ints))

pub returns-clause-values : goal.returns-clause-values
returns-clause-values c = λ v. meet_between_values c.args.self c.args.other _ _ v (omega (arith, ints, clamps)) (omega (arith, ints, clamps))

pub returns-clause-exact : goal.returns-clause-exact
returns-clause-exact c = meet_between c.args.self c.args.other _ _ _ (omega (arith, ints, clamps)) (omega (arith, ints, clamps))
