use Rattle.std.proofs.Common.{◌<◌, ◌≤◌, ◌∙◌, List, ℕ, arith, length, sym, drop}
use Rattle.pw_premises.specs.Premises.{Premises}
use Rattle.pw_reasons.specs.Combinations.{groups_of}
use Rattle.pw_reasons.proofs.FamilyLemmas.{members_below}
use Rattle.pw_reasons.proofs.ProductLemmas.{fixed_missing, found_all, found_more, group_missing, none_there}
use Rattle.pw_reasons.proofs.product.Product.within.Goals as goal

pub returns-then-not-is_fixed_in-clause-none : goal.returns-then-not-is_fixed_in-clause-none
returns-then-not-is_fixed_in-clause-none c =
    let product = c.args.self.now in
    fixed_missing product.fixed c.args.premises.now (drop product.place (groups_of product.groups))
    (sym c.is_fixed_in.ensures ∙ c.if-not-is_fixed_in.true)

pub returns-in_err-first_in-clause-none : goal.returns-in_err-first_in-clause-none
returns-in_err-first_in-clause-none c =
    let product = c.args.self.now in
    let w : Premises = c.args.premises.now in
    let groups : List (List ℕ) = groups_of product.groups in
    let place : ℕ = c.loop-place.place in
    let here : place < length groups = omega (arith, c.len-place-end.ensures.len, c.loop-place-test.true) in
    rw c.from_residual.ensures (group_missing product.fixed w (drop product.place groups)
    (none_there w groups product.place place c.group.result.now c.group.ensures c.loop-place.invariant.same here c.in_err-first_in.ensures.none))

pub insert-requires : goal.insert-requires
insert-requires c = record {
  in_range = members_below c.args.premises.now c.numbers-numbers.result c.numbers-numbers.ensures.list c.numbers-numbers.ensures.members
      c.in_ok-first_in.field-0 c.in_ok-first_in.ensures.some.1;
}

pub loop-place-preserved : goal.loop-place-preserved
loop-place-preserved c =
    let product = c.args.self.now in
    let groups : List (List ℕ) = groups_of product.groups in
    let place : ℕ = c.loop-place.place in
    let here : place < length groups = omega (arith, c.len-place-end.ensures.len, c.loop-place-test.true) in
    found_more product.fixed c.args.premises.now groups product.place place c.loop-place.set c.insert.new.self c.group.result.now c.in_ok-first_in.field-0
    here c.group.ensures c.loop-place.invariant c.in_ok-first_in.ensures.some.0 c.in_ok-first_in.ensures.some.1 c.insert.ensures.inserted

pub returns-clause-some : goal.returns-clause-some
returns-clause-some c =
    let product = c.args.self.now in
    let groups : List (List ℕ) = groups_of product.groups in
    let place : ℕ = c.loop-place.place in
    let past : length groups ≤ place = omega (arith, c.len-place-end.ensures.len, c.loop-place-test.false) in
    found_all product.fixed c.args.premises.now groups product.place place c.loop-place.set past c.loop-place.invariant
