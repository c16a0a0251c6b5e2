use Rattle.std.proofs.Common.{◌≡◌, arith}
use Rattle.std.proofs.lemmas.Int.{ints}
use Rattle.pw_kinds.proofs.Exacts.{meet_numbers, meet_apart, any_meets, meets_any, meets_empty, empty_meets, meet_values}
use Rattle.pw_kinds.proofs.exact.Exact.meet.Goals as goal

pub returns-in-One-One-clause-exact : goal.returns-in-One-One-clause-exact
returns-in-One-One-clause-exact c =
    let same : c.in-One-One.one.value ≡ c.in-One-One.another.value = omega (arith, ints) in
    meet_numbers c.args.self c.args.other c.in-One-One.one c.in-One-One.another c.in-One-One.is-0 c.in-One-One.is-1 same

pub returns-in-Any-default-clause-exact : goal.returns-in-Any-default-clause-exact
returns-in-Any-default-clause-exact c = any_meets c.args.self c.args.other c.in-Any-default.is-0

pub returns-in-Any-default-2-clause-exact : goal.returns-in-Any-default-2-clause-exact
returns-in-Any-default-2-clause-exact c = meets_any c.args.self c.args.other c.in-Any-default.is-1

pub returns-in-Any-default-3-clause-exact : goal.returns-in-Any-default-3-clause-exact
returns-in-Any-default-3-clause-exact c = meets_any c.args.self c.args.other c.in-Any-default.is-1

pub returns-in_default-clause-exact : goal.returns-in_default-clause-exact
returns-in_default-clause-exact c = meet_apart c.args.self c.args.other c.in-One-One.one c.in-One-One.another c.in-One-One.is-0 c.in-One-One.is-1 (λ same. omega (arith, ints, same, c.if-one-another.false))

pub returns-in_default-2-clause-exact : goal.returns-in_default-2-clause-exact
returns-in_default-2-clause-exact c = meets_empty c.args.self c.args.other c.in_default.is-1

pub returns-in_default-3 : goal.returns-in_default-3
returns-in_default-3 c =
    let e = empty_meets c.args.self c.args.other c.in_default.is-0 in
    record { values = meet_values c.args.self c.args.other _ e; exact = e }
