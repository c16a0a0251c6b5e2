use Rattle.std.proofs.Common.{◌≡◌, ℤ, pos, Some, ◌⊎◌, inl, inr, ◌∙◌}
use Rattle.std.specs.Ordering.{int_eq}
use Rattle.pw_kinds.proofs.Order.{not_both}
use Rattle.pw_info.specs.Information.{IsContradiction}
use Rattle.pw_procs.specs.Values.{truth, image_of_two}
use Rattle.pw_procs.proofs.TruthSets.{no_image, image_false, image_true, possible, only_differ, only_equal, some_differ, some_equal}
use Rattle.pw_procs.proofs.bodies.truths.equality.Goals.{then-is_contradiction-via-then-is_contradiction, then-is_contradiction-via-else-is_contradiction+then-is_contradiction-2, in_default-via-in-Some+in_default, in_default-via-in_default}
use Rattle.pw_procs.proofs.bodies.truths.equality.Goals as goal

pub returns-then-is_contradiction : goal.returns-then-is_contradiction
returns-then-is_contradiction c =
    let x = c.args.x.now in
    let y = c.args.y.now in
    let operation = λ (a b : ℤ). truth (int_eq a b) in
    let none : IsContradiction x ⊎ IsContradiction y = elim c.then-is_contradiction.branch [
      | then-is_contradiction-via-then-is_contradiction w ↦ inl (c.is_contradiction.ensures.0 w.if-is_contradiction.true)
      | then-is_contradiction-via-else-is_contradiction+then-is_contradiction-2 w ↦ inr (w.is_contradiction-else-is_contradiction.ensures.0 w.if-is_contradiction-2.true)
    ] in
    c.truths.ensures (image_of_two operation x y) (no_image operation x y none (int_eq (pos 0))) (no_image operation x y none (int_eq (pos 1)))

pub returns-in-Some-Some : goal.returns-in-Some-Some
returns-in-Some-Some c =
    let x = c.args.x.now in
    let y = c.args.y.now in
    let a = c.in-Some-Some.a in
    let b = c.in-Some-Some.b in
    let only_a = (c.only_value.ensures a).0 c.in-Some-Some.is-0 in
    let only_b = (c.only_value-2.ensures b).0 c.in-Some-Some.is-1 in
    c.truths-in-Some-Some.ensures (image_of_two (λ a b. truth (int_eq a b)) x y) (only_differ x y a b only_a only_b) (only_equal x y a b only_a only_b)

pub returns-in_default : goal.returns-in_default
returns-in_default c =
    let x = c.args.x.now in
    let y = c.args.y.now in
    let possible_x = possible x (λ none. not_both _ (c.is_contradiction.ensures.1 none) c.if-is_contradiction.false) in
    let possible_y = possible y (λ none. not_both _ (c.is_contradiction-else-is_contradiction.ensures.1 none) c.if-is_contradiction-2.false) in
    let others : (a b : ℤ) → c.only_value.result ≡ Some a → c.only_value-2.result ≡ Some b → ⊥ = λ a b at_a at_b. elim c.in_default.branch [
      | in_default-via-in-Some+in_default w ↦ absurd (cc)
      | in_default-via-in_default w ↦ absurd (cc)
    ] in
    c.truths-in_default.ensures (image_of_two (λ a b. truth (int_eq a b)) x y)
    (image_false int_eq x y ∙ some_differ x y c.only_value.result c.only_value-2.result possible_x possible_y c.only_value.ensures c.only_value-2.ensures others)
    (image_true int_eq x y ∙ some_equal x y c.meet.result c.is_contradiction-in_default.result c.meet.ensures.values c.is_contradiction-in_default.ensures)
