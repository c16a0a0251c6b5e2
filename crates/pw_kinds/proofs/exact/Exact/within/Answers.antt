use Rattle.std.proofs.Common.{◌≡◌, refl, arith}
use Rattle.std.proofs.lemmas.Int.{ints}
use Rattle.std.proofs.lemmas.Bool.{eqb-true, eq-eqb}
use Rattle.pw_kinds.proofs.Order.{not_both}
use Rattle.pw_kinds.proofs.Exacts.{within_numbers, numbers_within, one_not_within_empty, any_within_any}
use Rattle.pw_kinds.proofs.exact.Exact.within.Goals as goal

pub returns-in-One-One : goal.returns-in-One-One
returns-in-One-One c = (
  λ e. let same = eqb-true _ _ e in numbers_within c.args.self c.args.other c.in-One-One.one c.in-One-One.another c.in-One-One.is-0 c.in-One-One.is-1 (omega (arith, ints, same)),
  λ w. let same : c.in-One-One.one.value ≡ c.in-One-One.another.value = within_numbers c.args.self c.args.other c.in-One-One.one c.in-One-One.another c.in-One-One.is-0 c.in-One-One.is-1 w in eq-eqb _ _ (omega (arith, ints)),
)

pub returns-in_default : goal.returns-in_default
returns-in_default c = (
  λ f. absurd (not_both _ f refl),
  λ w. absurd (one_not_within_empty c.args.self c.args.other c.in_default.field-0-0 c.in_default.is-0 c.in_default.is-1 w),
)

pub returns-in_default-2 : goal.returns-in_default-2
returns-in_default-2 c = (
  λ f. absurd (not_both _ f refl),
  λ w. absurd (c.in_default.not-Any-1 (any_within_any c.args.self c.args.other c.in_default.is-0 w)),
)
