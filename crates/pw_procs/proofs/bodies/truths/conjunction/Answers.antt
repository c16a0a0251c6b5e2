use Rattle.std.proofs.Common.{◌≡◌, ℤ, pos, not, ◌&&◌, ◌||◌, ◌⊎◌, inl, inr, sym, ◌∙◌}
use Rattle.pw_kinds.proofs.Order.{not_both}
use Rattle.std.specs.Ordering.{int_eq}
use Rattle.pw_info.specs.declared.info.Info.TheVariants as info
use Rattle.pw_info.specs.Information.{IsContradiction}
use Rattle.pw_procs.specs.Values.{some, is_true, truth, image_of_two}
use Rattle.pw_procs.proofs.TruthSets.{no_image, possible, conjunction_false, conjunction_true, either_first, either_second, both_first, both_second}
use Rattle.pw_procs.proofs.bodies.truths.conjunction.Goals.{then-is_empty-via-then-is_empty, then-is_empty-via-else-is_empty+then-is_empty-2, then-has_false, else-has_false, then-has_true, else-has_true}
use Rattle.pw_procs.proofs.bodies.truths.conjunction.Goals as goal

pub returns-then-is_empty : goal.returns-then-is_empty
returns-then-is_empty c =
    let p = info.Members 0 c.args.p in
    let q = info.Members 0 c.args.q in
    let operation = λ (a b : ℤ). truth (is_true a && is_true b) in
    let none : IsContradiction p ⊎ IsContradiction q = elim c.then-is_empty.branch [
      | then-is_empty-via-then-is_empty w ↦ inl (c.is_empty.ensures.0 w.if-is_empty.true)
      | then-is_empty-via-else-is_empty+then-is_empty-2 w ↦ inr (w.is_empty-else-is_empty.ensures.0 w.if-is_empty-2.true)
    ] in
    c.truths.ensures (image_of_two operation p q) (no_image operation p q none (int_eq (pos 0))) (no_image operation p q none (int_eq (pos 1)))

pub returns : goal.returns
returns c =
    let p = info.Members 0 c.args.p in
    let q = info.Members 0 c.args.q in
    let possible_p = possible p (λ none. not_both _ (c.is_empty.ensures.1 none) c.if-is_empty.false) in
    let possible_q = possible q (λ none. not_both _ (c.is_empty-else-is_empty.ensures.1 none) c.if-is_empty-2.false) in
    let may_be_false : c.if-has_false.truths ≡ (some p (λ a. not (is_true a)) || some q (λ b. not (is_true b))) = elim c.if-has_false.branch [
      | then-has_false w ↦ w.truths-is ∙ w.if-has_false.true ∙ sym (either_first _ _ (sym c.has_false.ensures ∙ w.if-has_false.true))
      | else-has_false w ↦ w.truths-is ∙ w.has_false-else-has_false.ensures ∙ sym (either_second _ _ (sym c.has_false.ensures ∙ w.if-has_false.false))
    ] in
    let may_be_true : c.if-has_true.truths ≡ (some p is_true && some q is_true) = elim c.if-has_true.branch [
      | then-has_true w ↦ w.truths-is ∙ w.has_true-then-has_true.ensures ∙ sym (both_second _ _ (sym c.has_true.ensures ∙ w.if-has_true.true))
      | else-has_true w ↦ w.truths-is ∙ w.if-has_true.false ∙ sym (both_first _ _ (sym c.has_true.ensures ∙ w.if-has_true.false))
    ] in
    c.truths-2.ensures (image_of_two (λ a b. truth (is_true a && is_true b)) p q)
    (conjunction_false p q possible_p possible_q ∙ sym may_be_false)
    (conjunction_true p q ∙ sym may_be_true)
