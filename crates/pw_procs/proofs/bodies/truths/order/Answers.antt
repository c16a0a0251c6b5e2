use Rattle.std.proofs.Common.{ℤ, pos, ◌⊎◌, inl, inr, w64, to_z, of_z, arith}
use Rattle.std.specs.Int.Signed.{le_z}
use Rattle.std.proofs.lemmas.Int.{ints}
use Rattle.std.specs.Ordering.{int_eq}
use Rattle.pw_info.specs.declared.info.Info.TheVariants as info
use Rattle.pw_info.specs.Information.{IsContradiction}
use Rattle.pw_procs.specs.Values.{truth, image_of_two}
use Rattle.pw_procs.proofs.TruthSets.{no_image, some_above, some_at_most}
use Rattle.pw_procs.proofs.bodies.truths.order.Goals.{then-is_empty-via-then-is_empty, then-is_empty-via-else-is_empty+then-is_empty-2}
use Rattle.pw_procs.proofs.bodies.truths.order.Goals as goal

pub returns-then-is_empty : goal.returns-then-is_empty
returns-then-is_empty c =
    let x = info.Interval c.args.x in
    let y = info.Interval c.args.y in
    let operation = λ (a b : ℤ). truth (le_z a b) in
    let none : IsContradiction x ⊎ IsContradiction y = elim c.then-is_empty.branch [
      | then-is_empty-via-then-is_empty w ↦ inl (c.is_empty.ensures.0 w.if-is_empty.true)
      | then-is_empty-via-else-is_empty+then-is_empty-2 w ↦ inr (w.is_empty-else-is_empty.ensures.0 w.if-is_empty-2.true)
    ] in
    c.truths.ensures (image_of_two operation x y) (no_image operation x y none (int_eq (pos 0))) (no_image operation x y none (int_eq (pos 1)))

pub returns : goal.returns
returns c = c.truths-2.ensures
    (image_of_two (λ a b. truth (le_z a b)) (info.Interval c.args.x) (info.Interval c.args.y))
    (some_above c.args.x c.args.y c.hi.result c.lo.result (to_z w64 (of_z w64 c.hi.result)) (to_z w64 (of_z w64 c.lo.result))
    c.hi.ensures.greatest c.lo.ensures.least (omega (arith, ints)) (omega (arith, ints)))
    (some_at_most c.args.x c.args.y c.lo-2.result c.hi-2.result (to_z w64 (of_z w64 c.lo-2.result)) (to_z w64 (of_z w64 c.hi-2.result))
    c.lo-2.ensures.least c.hi-2.ensures.greatest (omega (arith, ints)) (omega (arith, ints)))
