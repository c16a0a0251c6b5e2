use Rattle.std.proofs.Common.{rules, ℤ, arith, refl, ap, ◌∙◌, subst}
use Rattle.std.specs.Option.{IfSome}
use Rattle.std.proofs.lemmas.Int.{ints}
use Rattle.pw_info.specs.declared.info.Info.TheVariants as info
use Rattle.pw_kinds.specs.Interval.{IsFromTo}
use Rattle.pw_procs.proofs.ExactPoints.{point_any, point_one, point_none, numberless_empty}
use Rattle.pw_procs.proofs.bodies.exact_numbers.point_interval.Goals as goal

pub returns-then-is_any : goal.returns-then-is_any
returns-then-is_any c = point_any c.args.k c.whole.result (search rules) c.whole.ensures.values

pub returns-in-Some : goal.returns-in-Some
returns-in-Some c =
    ap info.Interval c.unwrap_or.ensures ∙ point_one c.args.k c.in-Some.n c.new.result c.empty.result
    ((c.in-Some.ensures c.in-Some.n).0 refl)
    (λ range. c.new.ensures.some.1 (omega (arith, ints), (omega (arith, ints, range), omega (arith, ints, range)), (omega (arith, ints, range), omega (arith, ints, range))))
    (subst (λ (m : ℤ). IfSome c.new.result (λ i. IsFromTo i m m)) (omega (arith, ints)) c.new.ensures.values)
    c.empty.ensures.values

pub returns-in-None : goal.returns-in-None
returns-in-None c = point_none c.args.k c.empty-in-None.result (numberless_empty c.args.k (search rules) c.in-None.ensures) c.empty-in-None.ensures.values
