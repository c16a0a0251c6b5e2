use Rattle.std.proofs.Common.{◌<◌, ◌≤◌, ◌∙◌, ℕ, List, arith, length, sym, drop}
use Rattle.pw_reasons.specs.Combinations.{groups_of}
use Rattle.pw_reasons.proofs.ProductLemmas.{covers_all, none_before, one_before}
use Rattle.pw_reasons.proofs.product.Product.covers_each.Goals as goal

pub loop-own-init : goal.loop-own-init
loop-own-init c =
    let product = c.args.self.now in
    none_before (groups_of product.groups) product.place c.args.believed.now (drop c.args.place (groups_of c.args.groups.now))

pub loop-own-preserved : goal.loop-own-preserved
loop-own-preserved c =
    let product = c.args.self.now in
    let own : List (List ℕ) = groups_of product.groups in
    let i : ℕ = c.loop-own.own in
    let here : i < length own = omega (arith, c.len-own-end.ensures.len, c.loop-own-test.true) in
    one_before own product.place c.args.believed.now (drop c.args.place (groups_of c.args.groups.now)) i c.group.result.now c.group.ensures here
    c.loop-own.invariant (c.each_has_any.ensures c.if-not-each_has_any.false)

pub returns : goal.returns
returns c = λ _.
    let product = c.args.self.now in
    let own : List (List ℕ) = groups_of product.groups in
    let i : ℕ = c.loop-own.own in
    let past : length own ≤ i = omega (arith, c.len-own-end.ensures.len, c.loop-own-test.false) in
    covers_all own product.place c.args.believed.now (drop c.args.place (groups_of c.args.groups.now)) product.fixed i
    (sym c.is_fixed_in.ensures ∙ c.if-not-is_fixed_in.false) past c.loop-own.invariant
