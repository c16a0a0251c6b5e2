use Rattle.std.proofs.Common.{arith}
use Rattle.std.proofs.lemmas.Int.{ints}
use Rattle.pw_info.proofs.Numbers.{above_zero, below_zero, none_above, none_below, one_byte}
use Rattle.pw_info.proofs.Spellings.{IfNone_holds}
use Rattle.pw_info.proofs.number.read_number.Goals as goal

pub returns-in-45-clause-some : goal.returns-in-45-clause-some
returns-in-45-clause-some c =
    let read = c.in_ok-below.ensures.some in
    below_zero c.args.word.now c.in_ok-below.below c.args.most _ (omega (arith, ints, c.from.ensures)) (omega arith) (omega arith) read.0 read.1

pub returns-clause-some : goal.returns-clause-some
returns-clause-some c =
    let read = c.in_ok-above.ensures.some in
    above_zero c.args.word.now c.in_ok-above.above c.args.most _ (omega (arith, ints, c.from-2.ensures)) read.0 read.1

pub overflow_sub-result : goal.overflow_sub-result
overflow_sub-result c = omega (arith, ints, c.from.ensures, c.in_ok-below.ensures.some.1, c.requires)

pub returns-in_err-below-clause-none : goal.returns-in_err-below-clause-none
returns-in_err-below-clause-none c =
    IfNone_holds c.from_residual.result (none_below c.args.word.now c.args.most (omega (arith, c.in-45.len_at_least)) (omega arith) c.in_err-below.ensures.none)

pub returns-in-48-clause-some : goal.returns-in-48-clause-some
returns-in-48-clause-some c =
    (one_byte 48 c.args.word.now c.in-48.len_at_least c.in-48.len_below (omega arith), (omega (arith, ints), omega (arith, ints)))

pub returns-in_err-above-clause-none : goal.returns-in_err-above-clause-none
returns-in_err-above-clause-none c =
    IfNone_holds c.from_residual-in_err-above.result
    (none_above c.args.word.now c.args.most
    (λ some minus. grind arith) (λ one zero. grind arith)
    c.in_err-above.ensures.none)
