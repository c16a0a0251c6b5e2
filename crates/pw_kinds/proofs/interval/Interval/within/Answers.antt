use Rattle.std.proofs.Common.{ℤ, pos, ◌-ℤ◌, ◌≤ℤ◌, rules, arith, w64, to_z, of_z}
use Rattle.std.proofs.lemmas.Int.{ints}
use Rattle.pw_kinds.proofs.Order.{le_true, true_le}
use Rattle.pw_kinds.proofs.Intervals.{within_ends, ends_within, least_end, greatest_end, span_low, span_high}
use Rattle.pw_kinds.proofs.Signs.{IsSmall, together, neither_negative, not_negative}
use Rattle.pw_kinds.proofs.interval.Interval.within.Goals as goal

pub returns : goal.returns
returns c =
    let i = c.args.self in
    let j = c.args.other in
    let low : ℤ = to_z w64 (of_z w64 i.lo) -ℤ to_z w64 (of_z w64 j.lo) in
    let high : ℤ = to_z w64 (of_z w64 j.hi) -ℤ to_z w64 (of_z w64 i.hi) in
    let small_low : IsSmall low = (omega (arith, ints, least_end i, span_low i, least_end j, span_low j), omega (arith, ints, least_end i, span_low i, least_end j, span_low j)) in
    let small_high : IsSmall high = (omega (arith, ints, greatest_end i, span_high i, greatest_end j, span_high j), omega (arith, ints, greatest_end i, span_high i, greatest_end j, span_high j)) in (
      λ p.
          let both : (pos 0 ≤ℤ low) × (pos 0 ≤ℤ high) = not_negative low high small_low small_high (le_true (pos 0) (together low high) (search (rules, p))) in
          ends_within i j (omega (arith, ints, both.0, least_end i, span_low i, least_end j, span_low j)) (omega (arith, ints, both.1, greatest_end i, span_high i, greatest_end j, span_high j)),
      λ w.
          let ends : (j.lo ≤ℤ i.lo) × (i.hi ≤ℤ j.hi) = within_ends i j w in
          let both : pos 0 ≤ℤ together low high = neither_negative low high small_low small_high
          (omega (arith, ints, ends.0, least_end i, span_low i, least_end j, span_low j)) (omega (arith, ints, ends.1, greatest_end i, span_high i, greatest_end j, span_high j)) in
          let passes = true_le (pos 0) (together low high) both in search (rules, passes),
    )
