use Rattle.std.proofs.Common.{◌≡◌, ℕ, List, arith, ap, length, get_or, sym, subst, w64, to_z, of_z}
use Rattle.std.proofs.lemmas.Int.{ints}
use Rattle.pw_info.specs.Number.{IsUpTo}
use Rattle.pw_info.proofs.Dots.{behind_first, ends_spell, none_in_order, none_of_back, none_of_front, none_without_dot}
use Rattle.pw_info.proofs.Spellings.{IfNone_holds}
use Rattle.pw_info.proofs.range.read_ends.Goals as goal

pub returns-in_default-clause-none : goal.returns-in_default-clause-none
returns-in_default-clause-none c =
    none_without_dot c.args.front.now c.args.rest.now c.args.most
    (λ back is. let longer = ap length is in omega (arith, longer, c.in_default.len_below))

pub returns-in_default-2-clause-none : goal.returns-in_default-2-clause-none
returns-in_default-2-clause-none c =
    none_without_dot c.args.front.now c.args.rest.now c.args.most
    (λ back is. let dot : get_or c.args.rest.now 0 0 ≡ 46 = ap (λ (l : List ℕ). get_or l 0 0) is in omega arith)

pub returns-in_err-lo-clause-none : goal.returns-in_err-lo-clause-none
returns-in_err-lo-clause-none c =
    IfNone_holds c.from_residual.result (none_of_front c.args.front.now c.args.rest.now c.args.most c.in_err-lo.ensures.none)

pub returns-in_err-hi-clause-none : goal.returns-in_err-hi-clause-none
returns-in_err-hi-clause-none c =
    let parts = behind_first 46 c.args.rest.now (omega (arith, c.in-46.len_at_least)) (omega arith) in
    IfNone_holds c.from_residual-in_err-hi.result
    (none_of_back c.args.front.now c.args.rest.now _ c.args.most parts c.in_err-hi.ensures.none)

pub returns-then-lo-hi-clause-none : goal.returns-then-lo-hi-clause-none
returns-then-lo-hi-clause-none c =
    let parts = behind_first 46 c.args.rest.now (omega (arith, c.in-46.len_at_least)) (omega arith) in
    none_in_order c.args.front.now c.args.rest.now _ c.args.most c.in_ok-lo.lo c.in_ok-hi.hi parts c.in_ok-lo.ensures.some.0 c.in_ok-hi.ensures.some.0
    (λ order. omega (arith, ints, order, c.if-lo-hi.true))

pub returns-clause-some : goal.returns-clause-some
returns-clause-some c =
    let parts = behind_first 46 c.args.rest.now (omega (arith, c.in-46.len_at_least)) (omega arith) in
    let same_lo : to_z w64 (of_z w64 c.in_ok-lo.lo) ≡ c.in_ok-lo.lo = omega (arith, ints) in
    let same_hi : to_z w64 (of_z w64 c.in_ok-hi.hi) ≡ c.in_ok-hi.hi = omega (arith, ints) in
    ends_spell c.args.front.now c.args.rest.now _ c.in_ok-lo.lo c.in_ok-hi.hi _ _ parts same_lo same_hi
    c.in_ok-lo.ensures.some.0 c.in_ok-hi.ensures.some.0 (omega (arith, ints, c.if-lo-hi.false))

pub returns-clause-within : goal.returns-clause-within
returns-clause-within c =
    let same_lo : to_z w64 (of_z w64 c.in_ok-lo.lo) ≡ c.in_ok-lo.lo = omega (arith, ints) in
    let same_hi : to_z w64 (of_z w64 c.in_ok-hi.hi) ≡ c.in_ok-hi.hi = omega (arith, ints) in
    (subst (IsUpTo c.args.most) (sym same_lo) c.in_ok-lo.ensures.some.1, subst (IsUpTo c.args.most) (sym same_hi) c.in_ok-hi.ensures.some.1)
