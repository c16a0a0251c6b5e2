use Rattle.std.proofs.Common.{◌≡◌, ℤ, arith, w64, to_z, of_z}
use Rattle.std.proofs.lemmas.Int.{ints}
use Rattle.pw_info.proofs.Spellings.{IfNone_holds, from_same_ends, no_values, values_spelled}
use Rattle.pw_info.proofs.text.read_interval.Goals as goal

pub returns-in_err-lo-clause-none : goal.returns-in_err-lo-clause-none
returns-in_err-lo-clause-none c = IfNone_holds c.from_residual.result (no_values c.args.word.now c.in_err-lo.ensures.none)

pub returns-clause-some : goal.returns-clause-some
returns-clause-some c =
    let lo : ℤ = c.in_ok-lo.lo in
    let hi : ℤ = c.in_ok-lo.hi in
    let part = c.in_ok-interval.interval in
    let same_lo : to_z w64 (of_z w64 lo) ≡ lo = omega (arith, ints) in
    let same_hi : to_z w64 (of_z w64 hi) ≡ hi = omega (arith, ints) in
    λ members. values_spelled members c.args.word.now lo hi part c.of_interval.result
    c.in_ok-lo.ensures.some c.in_ok-lo.ensures.within.0 c.in_ok-lo.ensures.within.1
    (from_same_ends part lo hi _ _ same_lo same_hi c.in_ok-interval.ensures.values) c.of_interval.ensures.values
