use Rattle.std.proofs.Common.{◌≡◌, pos, negsuc, ◌+ℤ◌, ◌-ℤ◌, ◌*ℤ◌, ◌&&◌, arith, refl}
use Rattle.std.specs.Int.Signed.{le_z}
use Rattle.std.specs.Ordering.{int_eq}
use Rattle.std.proofs.lemmas.Int.{ints, clamps}
use Rattle.pw_kinds.specs.Interval as interval
use Rattle.pw_kinds.specs.Exact as exact
use Rattle.pw_procs.specs.Values.{from_to}
use Rattle.pw_procs.proofs.MeaningExamples.{from_to_is, exactly_is, empty_from_to, two_from_to, squares_from_to, half_from_to, quotient_open, quotient_of_none, point_one, fixed_one}
use Rattle.pw_procs.proofs.laws.examples_of_numbers.Goals as goal

pub returns : goal.returns
returns c = record {
  sum = two_from_to (λ a b. a +ℤ b) _ _ _ (pos 1) (pos 2) (pos 10) (pos 20) (pos 1) (pos 10) (pos 2) (pos 20) (pos 11) (pos 22)
      (from_to_is (pos 1) (pos 2) refl) (from_to_is (pos 10) (pos 20) refl) (from_to_is (pos 11) (pos 22) refl)
      (omega (arith, ints), omega (arith, ints)) (omega (arith, ints), omega (arith, ints))
      (omega (arith, ints), omega (arith, ints)) (omega (arith, ints), omega (arith, ints))
      (λ x y p q r s. (omega (arith, ints), omega (arith, ints)))
      (omega (arith, ints, clamps)) (omega (arith, ints, clamps));
  difference = two_from_to (λ a b. a -ℤ b) _ _ _ (pos 10) (pos 20) (pos 1) (pos 2) (pos 10) (pos 2) (pos 20) (pos 1) (pos 8) (pos 19)
      (from_to_is (pos 10) (pos 20) refl) (from_to_is (pos 1) (pos 2) refl) (from_to_is (pos 8) (pos 19) refl)
      (omega (arith, ints), omega (arith, ints)) (omega (arith, ints), omega (arith, ints))
      (omega (arith, ints), omega (arith, ints)) (omega (arith, ints), omega (arith, ints))
      (λ x y p q r s. (omega (arith, ints), omega (arith, ints)))
      (omega (arith, ints, clamps)) (omega (arith, ints, clamps));
  product = two_from_to (λ a b. a *ℤ b) _ _ _ (negsuc 2) (pos 4) (pos 2) (pos 2) (negsuc 2) (pos 2) (pos 4) (pos 2) (negsuc 5) (pos 8)
      (from_to_is (negsuc 2) (pos 4) refl) (from_to_is (pos 2) (pos 2) refl) (from_to_is (negsuc 5) (pos 8) refl)
      (omega (arith, ints), omega (arith, ints)) (omega (arith, ints), omega (arith, ints))
      (omega (arith, ints), omega (arith, ints)) (omega (arith, ints), omega (arith, ints))
      (λ x y p q r s. let two : y ≡ pos 2 = omega (arith, ints) in rw two (omega (arith, ints), omega (arith, ints)))
      (omega (arith, ints, clamps)) (omega (arith, ints, clamps));
  cut = two_from_to (λ a b. a *ℤ b) _ _ _ (pos 333333) (pos 333334) (pos 3) (pos 3) (pos 333333) (pos 3) (pos 333334) (pos 3) (pos 999999) (pos 1000000)
      (from_to_is (pos 333333) (pos 333334) refl) (from_to_is (pos 3) (pos 3) refl) (from_to_is (pos 999999) (pos 1000000) refl)
      (omega (arith, ints), omega (arith, ints)) (omega (arith, ints), omega (arith, ints))
      (omega (arith, ints), omega (arith, ints)) (omega (arith, ints), omega (arith, ints))
      (λ x y p q r s. let three : y ≡ pos 3 = omega (arith, ints) in rw three (omega (arith, ints), omega (arith, ints)))
      (omega (arith, ints, clamps)) (omega (arith, ints, clamps));
  square = squares_from_to _ _ (from_to_is (negsuc 0) (pos 2) refl) (from_to_is (pos 0) (pos 4) refl);
  quotient = half_from_to _ _ _ (pos 5) (pos 13) (pos 3) (pos 6) (from_to_is (pos 5) (pos 13) refl) (from_to_is (pos 2) (pos 2) refl) (from_to_is (pos 3) (pos 6) refl) (omega (arith, ints))
      (λ q p r. (omega (arith, ints), omega (arith, ints))) (λ q p r. (omega (arith, ints), omega (arith, ints)));
  no_quotient = half_from_to _ _ _ (pos 7) (pos 7) (pos 4) (pos 3) (from_to_is (pos 7) (pos 7) refl) (from_to_is (pos 2) (pos 2) refl) empty_from_to (omega (arith, ints))
      (λ q p r. (omega (arith, ints), omega (arith, ints))) (λ q p r. (omega (arith, ints), omega (arith, ints)));
  by_zero = quotient_open _ _ (pos 1) (pos 5) (negsuc 0) (pos 1) (from_to_is (pos 1) (pos 5) refl) (from_to_is (negsuc 0) (pos 1) refl) (omega (arith, ints)) (omega (arith, ints)) (omega (arith, ints));
  none_by_zero = quotient_of_none (from_to (negsuc 0) (pos 1));
  point = point_one _ _ (pos 5) (omega (arith, ints)) (omega (arith, ints)) (exactly_is (pos 5) refl) (from_to_is (pos 5) (pos 5) refl);
  fixed = fixed_one (interval.closest (λ v. le_z (pos 5) v && le_z v (pos 5))) (exact.closest (λ v. int_eq v (pos 5))) (pos 5) (from_to_is (pos 5) (pos 5) refl) (exactly_is (pos 5) refl);
}
