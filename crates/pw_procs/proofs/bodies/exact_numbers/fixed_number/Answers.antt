use Rattle.std.proofs.Common.{rules, ◌≡◌, ℤ, arith, ap, ◌∙◌, subst, to_z, of_z, w64}
use Rattle.std.specs.Option.{IfSome}
use Rattle.std.proofs.lemmas.Int.{ints}
use Rattle.pw_info.specs.declared.info.Info.TheVariants as info
use Rattle.pw_kinds.specs.Exact.{IsOne}
use Rattle.pw_kinds.specs.Interval.{IsGreatestOf}
use Rattle.pw_procs.proofs.ExactPoints.{fixed_none, fixed_any, fixed_one}
use Rattle.pw_procs.proofs.bodies.exact_numbers.fixed_number.Goals as goal

pub returns-then-is_empty : goal.returns-then-is_empty
returns-then-is_empty c = ap info.Exact (c.none.ensures.exact ∙ fixed_none c.args.x (search rules))

pub returns-then-lo-hi : goal.returns-then-lo-hi
returns-then-lo-hi c =
    ap info.Exact (c.any.ensures.exact ∙ fixed_any c.args.x c.lo-lo.result c.hi.result c.lo-lo.ensures.least c.hi.ensures.greatest
    (λ same. c.if-lo-hi.true (omega (arith, ints))))

pub returns : goal.returns
returns c =
    let same : c.hi.result ≡ c.lo-lo.result = omega (arith, ints, c.if-lo-hi.false) in
    let again : to_z w64 (of_z w64 c.lo-lo.result) ≡ c.lo-lo.result = omega (arith, ints) in
    ap info.Exact (c.unwrap_or.ensures ∙ fixed_one c.args.x c.lo-lo.result c.one.result c.any-2.result c.lo-lo.ensures.least
    (subst (λ (n : ℤ). IsGreatestOf c.args.x n) same c.hi.ensures.greatest)
    (λ range. c.one.ensures.some.1 (omega (arith, ints, range), omega (arith, ints, range)))
    (subst (λ (n : ℤ). IfSome c.one.result (λ e. IsOne e n)) again c.one.ensures.values))
