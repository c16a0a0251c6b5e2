use Rattle.std.proofs.Common.{ℤ, pos, negsuc, ◌≤ℤ◌, arith, sym, ◌∙◌}
use Rattle.std.proofs.lemmas.Int.{ints}
use Rattle.pw_kinds.specs.Ranges.{interval_lowest, interval_highest}
use Rattle.pw_kinds.specs.Interval.{AreEnds, IsFromTo, from_to}
use Rattle.pw_kinds.proofs.Order.{false_le}
use Rattle.pw_kinds.proofs.Intervals.{allows-whole, ends, from_to_only, from_to_values}
use Rattle.pw_kinds.proofs.Examples.{meet_from_to, meet_apart, within_from_to, not_within_from_to, ends_from_to, empty_within, whole_not_within, closest_from_to, closest_none}
use Rattle.pw_kinds.proofs.laws.interval_examples.Goals as goal

small : (lo hi : ℤ) → negsuc 9 ≤ℤ lo → lo ≤ℤ hi → hi ≤ℤ pos 9 → AreEnds lo hi
small lo hi p q r = ends lo hi (omega (arith, ints)) q (omega (arith, ints))

at : (lo hi : ℤ) → negsuc 9 ≤ℤ lo → lo ≤ℤ hi → hi ≤ℤ pos 9 → IsFromTo (from_to lo hi) lo hi
at lo hi p q r = from_to_values lo hi (small lo hi p q r)

pub returns : goal.returns
returns c =
    let five_nine = at (pos 5) (pos 9) (omega (arith, ints)) (omega (arith, ints)) (omega (arith, ints)) in
    let zero_seven = at (pos 0) (pos 7) (omega (arith, ints)) (omega (arith, ints)) (omega (arith, ints)) in
    let low_two = at (negsuc 2) (pos 2) (omega (arith, ints)) (omega (arith, ints)) (omega (arith, ints)) in
    let two_four = at (pos 2) (pos 4) (omega (arith, ints)) (omega (arith, ints)) (omega (arith, ints)) in
    let one_two = at (pos 1) (pos 2) (omega (arith, ints)) (omega (arith, ints)) (omega (arith, ints)) in
    let three_four = at (pos 3) (pos 4) (omega (arith, ints)) (omega (arith, ints)) (omega (arith, ints)) in
    let five = at (pos 5) (pos 5) (omega (arith, ints)) (omega (arith, ints)) (omega (arith, ints)) in
    let low_four = ends_from_to (from_to (negsuc 2) (pos 4)) (negsuc 2) (pos 4) (at (negsuc 2) (pos 4) (omega (arith, ints)) (omega (arith, ints)) (omega (arith, ints))) (omega (arith, ints)) in
    let alone = ends_from_to (from_to (pos 5) (pos 5)) (pos 5) (pos 5) five (omega (arith, ints)) in
    record {
      overlap = from_to_only (pos 5) (pos 7) _ (small (pos 5) (pos 7) (omega (arith, ints)) (omega (arith, ints)) (omega (arith, ints)))
          (meet_from_to (from_to (pos 5) (pos 9)) (from_to (pos 0) (pos 7)) (pos 5) (pos 9) (pos 0) (pos 7) (pos 5) (pos 7) five_nine zero_seven
          (λ v p q r s. (omega (arith, ints), omega (arith, ints)))
          (λ v p q. (omega (arith, ints), omega (arith, ints), omega (arith, ints), omega (arith, ints))));
      touch = from_to_only (pos 2) (pos 2) _ (small (pos 2) (pos 2) (omega (arith, ints)) (omega (arith, ints)) (omega (arith, ints)))
          (meet_from_to (from_to (negsuc 2) (pos 2)) (from_to (pos 2) (pos 4)) (negsuc 2) (pos 2) (pos 2) (pos 4) (pos 2) (pos 2) low_two two_four
          (λ v p q r s. (omega (arith, ints), omega (arith, ints)))
          (λ v p q. (omega (arith, ints), omega (arith, ints), omega (arith, ints), omega (arith, ints))));
      apart = meet_apart (from_to (pos 1) (pos 2)) (from_to (pos 3) (pos 4)) (pos 1) (pos 2) (pos 3) (pos 4) one_two three_four (omega (arith, ints));
      within = within_from_to (from_to (pos 5) (pos 5)) (from_to (pos 0) (pos 7)) (pos 5) (pos 5) (pos 0) (pos 7) five zero_seven (omega (arith, ints)) (omega (arith, ints));
      not_within = not_within_from_to (from_to (pos 0) (pos 7)) (from_to (pos 5) (pos 9)) (pos 0) (pos 7) (pos 5) (pos 9) zero_seven five_nine (omega (arith, ints)) (omega (arith, ints));
      least = low_four.0;
      greatest = low_four.1;
      one = alone.0 ∙ sym alone.1;
      whole = from_to_only interval_lowest interval_highest _ (ends interval_lowest interval_highest (omega (arith, ints)) (omega (arith, ints)) (omega (arith, ints))) allows-whole;
      empty_within = empty_within;
      whole_not_within = whole_not_within;
      closest = λ p passes. from_to_only (pos 2) (pos 5) _ (small (pos 2) (pos 5) (omega (arith, ints)) (omega (arith, ints)) (omega (arith, ints)))
          (closest_from_to p (pos 2) (pos 5) (omega (arith, ints)) (omega (arith, ints)) (omega (arith, ints)) passes.at_lo passes.at_hi passes.inside);
      none_in_range = closest_none _ (λ v low high. false_le (pos 1000001) v (omega (arith, ints)));
    }
