use Rattle.std.proofs.Common.{◌<◌, ◌≤◌, List, ℕ, arith, length, sym, ◌∙◌, drop}
use Rattle.pw_premises.specs.Premises.{Premises}
use Rattle.pw_reasons.specs.Combinations.{groups_of}
use Rattle.pw_reasons.proofs.FamilyLemmas.{and_both}
use Rattle.pw_reasons.proofs.ProductLemmas.{all_there, fixed_missing, group_missing, none_there, product_covers}
use Rattle.pw_reasons.proofs.product.Product.covers.Goals as goal

pub returns-then-not-is_fixed_in : goal.returns-then-not-is_fixed_in
returns-then-not-is_fixed_in c =
    let product = c.args.self.now in
    sym (fixed_missing product.fixed c.args.premises.now (drop product.place (groups_of product.groups))
    (sym c.is_fixed_in.ensures ∙ c.if-not-is_fixed_in.true))

pub returns-then-not-has_any : goal.returns-then-not-has_any
returns-then-not-has_any c =
    let product = c.args.self.now in
    let w : Premises = c.args.premises.now in
    let groups : List (List ℕ) = groups_of product.groups in
    let place : ℕ = c.loop-place.place in
    let here : place < length groups = omega (arith, c.len-place-end.ensures.len, c.loop-place-test.true) in
    sym (group_missing product.fixed w (drop product.place groups)
    (none_there w groups product.place place c.group.result.now c.group.ensures c.loop-place.invariant here (sym c.has_any.ensures ∙ c.if-not-has_any.true)))

pub returns : goal.returns
returns c =
    let product = c.args.self.now in
    let w : Premises = c.args.premises.now in
    let groups : List (List ℕ) = groups_of product.groups in
    let place : ℕ = c.loop-place.place in
    let past : length groups ≤ place = omega (arith, c.len-place-end.ensures.len, c.loop-place-test.false) in
    sym (product_covers product.fixed w (drop product.place groups)
    ∙ and_both _ _ (sym c.is_fixed_in.ensures ∙ c.if-not-is_fixed_in.false) (all_there w groups product.place place c.loop-place.invariant past))
