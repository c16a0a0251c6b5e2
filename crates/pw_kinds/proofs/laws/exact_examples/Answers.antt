use Rattle.std.proofs.Common.{pos, arith, refl, ◌∙◌, ap}
use Rattle.std.specs.Int.Signed.{le_z}
use Rattle.std.proofs.lemmas.Int.{ints}
use Rattle.pw_kinds.specs.Exact as exact
use Rattle.pw_kinds.specs.declared.exact.Exact.{Exact}
use Rattle.pw_kinds.specs.Exact.{IsOne}
use Rattle.pw_kinds.proofs.Order.{not_both, false_le}
use Rattle.pw_kinds.proofs.Exacts.{meet_ones, meet_of_others, closest_one, closest_two, closest_none, one_is, same_ones, true_number, allows-any, allows-empty}
use Rattle.pw_kinds.proofs.laws.exact_examples.Goals as goal

pub returns : goal.returns
returns c =
    let zero = true_number (pos 0) (omega (arith, ints)) (omega (arith, ints)) in
    let seven = true_number (pos 7) (omega (arith, ints)) (omega (arith, ints)) in
    let two = true_number (pos 2) (omega (arith, ints)) (omega (arith, ints)) in
    let five = true_number (pos 5) (omega (arith, ints)) (omega (arith, ints)) in
    let one_seven : IsOne (exact.one (pos 7)) (pos 7) = one_is (pos 7) seven in
    let one_eight : IsOne (exact.one (pos 8)) (pos 8) = one_is (pos 8) (true_number (pos 8) (omega (arith, ints)) (omega (arith, ints))) in
    record {
      same = same_ones _ _ (pos 7) (meet_ones _ _ (pos 7) one_seven one_seven) one_seven;
      other = meet_of_others _ _ (pos 7) (pos 8) one_seven one_eight refl;
      closest_one = same_ones _ _ (pos 7) (closest_one (pos 7) seven) one_seven;
      closest_two = λ p at_two at_five. closest_two p (pos 2) (pos 5) two five at_two at_five refl;
      none_in_range = closest_none (λ v. le_z (pos 1000000001) v) (λ v low high. false_le (pos 1000000001) v (omega (arith, ints)));
      apart = λ e. not_both _ (allows-any (pos 0) ∙ zero) (ap (λ (x : Exact). exact.allows x (pos 0)) e ∙ allows-empty (pos 0));
    }
