use Rattle.std.proofs.Common.{◌<◌, ◌∙◌, ℕ, List, arith, length, sym, drop}
use Rattle.pw_reasons.specs.Combinations.{groups_of}
use Rattle.pw_reasons.proofs.ProductLemmas.{each_has_believed, each_has_part}
use Rattle.pw_reasons.proofs.product.each_has_any.Goals as goal

pub returns-then-has_any : goal.returns-then-has_any
returns-then-has_any c = λ _.
    each_has_believed c.args.believed.now (drop c.args.place (groups_of c.args.groups.now)) c.args.group.now (sym c.has_any.ensures ∙ c.if-has_any.true)

pub returns-then-is_part : goal.returns-then-is_part
returns-then-is_part c = λ _.
    let groups : List (List ℕ) = groups_of c.args.groups.now in
    let other : ℕ = c.loop-other.other in
    let here : other < length groups = omega (arith, c.len-other-end.ensures.len, c.loop-other-test.true) in
    each_has_part c.args.believed.now groups c.args.place other c.group.result.now c.args.group.now c.loop-other.invariant here c.group.ensures
    (c.is_part.ensures c.if-is_part.true)
