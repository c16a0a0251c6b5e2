use Rattle.std.proofs.Common.{◌≡◌, ◌&&◌, ◌||◌, pos, ◌≤ℤ◌, ◌<ℤ◌, true, false, arith, refl, sym, ◌∙◌, ap}
use Rattle.std.specs.Int.Signed.{le_z}
use Rattle.std.specs.Ordering.{int_eq}
use Rattle.std.proofs.lemmas.Int.{ints}
use Rattle.pw_kinds.proofs.Order.{le_false, not_both}
use Rattle.pw_kinds.proofs.Exacts as exacts
use Rattle.pw_info.specs.Information.{nothing, contradiction}
use Rattle.pw_info.proofs.Informations.{allows-contradiction}
use Rattle.pw_procs.specs.Values.{image_of_two, from_to, just, bool, is_true, truth}
use Rattle.pw_procs.proofs.MeaningExamples.{in_range, range_in, truths_at, gives, never, just_itself, just_only, either, or_true, negated}
use Rattle.pw_procs.proofs.laws.examples_of_truths.Goals as goal

pub returns : goal.returns
returns c = record {
  at_most = truths_at (image_of_two (λ a b. truth (le_z a b)) (from_to (pos 1) (pos 5)) (from_to (pos 5) (pos 9))) _
      (never le_z (from_to (pos 1) (pos 5)) (from_to (pos 5) (pos 9)) false (λ a b p_a p_b e.
      let at_a : ((pos 1) ≤ℤ a) × (a ≤ℤ (pos 5)) = in_range (pos 1) (pos 5) a refl p_a in
      let at_b : ((pos 5) ≤ℤ b) × (b ≤ℤ (pos 9)) = in_range (pos 5) (pos 9) b refl p_b in
      let over : b <ℤ a = le_false a b e in omega (arith, ints)))
      (gives le_z (from_to (pos 1) (pos 5)) (from_to (pos 5) (pos 9)) true (pos 1) (pos 5) (range_in (pos 1) (pos 5) (pos 1) refl (omega (arith, ints)) (omega (arith, ints))) (range_in (pos 5) (pos 9) (pos 5) refl (omega (arith, ints)) (omega (arith, ints))) refl);
  at_most_open = truths_at (image_of_two (λ a b. truth (le_z a b)) (from_to (pos 1) (pos 6)) (from_to (pos 5) (pos 9))) _
      (gives le_z (from_to (pos 1) (pos 6)) (from_to (pos 5) (pos 9)) false (pos 6) (pos 5) (range_in (pos 1) (pos 6) (pos 6) refl (omega (arith, ints)) (omega (arith, ints))) (range_in (pos 5) (pos 9) (pos 5) refl (omega (arith, ints)) (omega (arith, ints))) refl)
      (gives le_z (from_to (pos 1) (pos 6)) (from_to (pos 5) (pos 9)) true (pos 1) (pos 5) (range_in (pos 1) (pos 6) (pos 1) refl (omega (arith, ints)) (omega (arith, ints))) (range_in (pos 5) (pos 9) (pos 5) refl (omega (arith, ints)) (omega (arith, ints))) refl);
  equal = truths_at (image_of_two (λ a b. truth (int_eq a b)) (from_to (pos 2) (pos 2)) (from_to (pos 2) (pos 2))) _
      (never int_eq (from_to (pos 2) (pos 2)) (from_to (pos 2) (pos 2)) false (λ a b p_a p_b e.
      let at_a : ((pos 2) ≤ℤ a) × (a ≤ℤ (pos 2)) = in_range (pos 2) (pos 2) a refl p_a in
      let at_b : ((pos 2) ≤ℤ b) × (b ≤ℤ (pos 2)) = in_range (pos 2) (pos 2) b refl p_b in
      not_both _ (exacts.true_eq a b (omega (arith, ints))) e))
      (gives int_eq (from_to (pos 2) (pos 2)) (from_to (pos 2) (pos 2)) true (pos 2) (pos 2) (range_in (pos 2) (pos 2) (pos 2) refl (omega (arith, ints)) (omega (arith, ints))) (range_in (pos 2) (pos 2) (pos 2) refl (omega (arith, ints)) (omega (arith, ints))) refl);
  parted = truths_at (image_of_two (λ a b. truth (int_eq a b)) (from_to (pos 1) (pos 2)) (from_to (pos 3) (pos 4))) _
      (gives int_eq (from_to (pos 1) (pos 2)) (from_to (pos 3) (pos 4)) false (pos 1) (pos 3) (range_in (pos 1) (pos 2) (pos 1) refl (omega (arith, ints)) (omega (arith, ints))) (range_in (pos 3) (pos 4) (pos 3) refl (omega (arith, ints)) (omega (arith, ints))) refl)
      (never int_eq (from_to (pos 1) (pos 2)) (from_to (pos 3) (pos 4)) true (λ a b p_a p_b e.
      let at_a : ((pos 1) ≤ℤ a) × (a ≤ℤ (pos 2)) = in_range (pos 1) (pos 2) a refl p_a in
      let at_b : ((pos 3) ≤ℤ b) × (b ≤ℤ (pos 4)) = in_range (pos 3) (pos 4) b refl p_b in
      let same : a ≡ b = exacts.eq_true a b e in omega (arith, ints)));
  equal_open = truths_at (image_of_two (λ a b. truth (int_eq a b)) (from_to (pos 1) (pos 2)) (from_to (pos 2) (pos 3))) _
      (gives int_eq (from_to (pos 1) (pos 2)) (from_to (pos 2) (pos 3)) false (pos 1) (pos 2) (range_in (pos 1) (pos 2) (pos 1) refl (omega (arith, ints)) (omega (arith, ints))) (range_in (pos 2) (pos 3) (pos 2) refl (omega (arith, ints)) (omega (arith, ints))) refl)
      (gives int_eq (from_to (pos 1) (pos 2)) (from_to (pos 2) (pos 3)) true (pos 2) (pos 2) (range_in (pos 1) (pos 2) (pos 2) refl (omega (arith, ints)) (omega (arith, ints))) (range_in (pos 2) (pos 3) (pos 2) refl (omega (arith, ints)) (omega (arith, ints))) refl);
  inverter = negated;
  conjoiner = truths_at (image_of_two (λ a b. truth (is_true a && is_true b)) (just false) (nothing bool)) _
      (gives (λ a b. is_true a && is_true b) (just false) (nothing bool) false (pos 0) (pos 0) (just_itself false) (either false) refl)
      (never (λ a b. is_true a && is_true b) (just false) (nothing bool) true (λ a b p_a p_b e.
      not_both _ e (ap (λ z. is_true z && is_true b) (just_only false a p_a))));
  conjoiner_open = truths_at (image_of_two (λ a b. truth (is_true a && is_true b)) (just true) (nothing bool)) _
      (gives (λ a b. is_true a && is_true b) (just true) (nothing bool) false (pos 1) (pos 0) (just_itself true) (either false) refl)
      (gives (λ a b. is_true a && is_true b) (just true) (nothing bool) true (pos 1) (pos 1) (just_itself true) (either true) refl);
  conjoiner_none = truths_at (image_of_two (λ a b. truth (is_true a && is_true b)) (just false) (contradiction bool)) _
      (never (λ a b. is_true a && is_true b) (just false) (contradiction bool) false (λ a b p_a p_b e. not_both _ p_b (allows-contradiction bool b)))
      (never (λ a b. is_true a && is_true b) (just false) (contradiction bool) true (λ a b p_a p_b e. not_both _ p_b (allows-contradiction bool b)));
  disjoiner = truths_at (image_of_two (λ a b. truth (is_true a || is_true b)) (nothing bool) (just true)) _
      (never (λ a b. is_true a || is_true b) (nothing bool) (just true) false (λ a b p_a p_b e.
      not_both _ (or_true (is_true a)) (sym (ap (λ z. is_true a || is_true z) (just_only true b p_b)) ∙ e)))
      (gives (λ a b. is_true a || is_true b) (nothing bool) (just true) true (pos 0) (pos 1) (either false) (just_itself true) refl);
  disjoiner_open = truths_at (image_of_two (λ a b. truth (is_true a || is_true b)) (nothing bool) (just false)) _
      (gives (λ a b. is_true a || is_true b) (nothing bool) (just false) false (pos 0) (pos 0) (either false) (just_itself false) refl)
      (gives (λ a b. is_true a || is_true b) (nothing bool) (just false) true (pos 1) (pos 0) (either true) (just_itself false) refl);
}
