use Rattle.std.proofs.Common.{◌+◌, arith}
use Rattle.std.proofs.lemmas.Str.Parse.{digit_at, digits_value-take-le}
use Rattle.pw_info.proofs.Digits.{all_digits_more, one_digit_more}
use Rattle.pw_info.proofs.number.read_positive.Goals as goal
use Rattle.pw_info.proofs.number.read_positive.Goals.{then-digit-lt48-via-then-digit-lt48, then-digit-lt48-via-else-digit-lt48+then-digit-gt57}

pub returns-then-digit-lt48-clause-none : goal.returns-then-digit-lt48-clause-none
returns-then-digit-lt48-clause-none c =
    λ n spelled small.
    let digit = digit_at c.args.word.now c.loop-digit.digit-index spelled.digits c.loop-digit-test.true in
    elim c.then-digit-lt48.branch [ then-digit-lt48-via-then-digit-lt48 w ↦ omega arith | then-digit-lt48-via-else-digit-lt48+then-digit-gt57 w ↦ omega arith ]

-- too large on the way is too large at the end
pub returns-then-number-limit-clause-none : goal.returns-then-number-limit-clause-none
returns-then-number-limit-clause-none c =
    λ n spelled small.
    let word = c.args.word.now in
    let i = c.loop-digit.digit-index in
    let more = one_digit_more word i c.loop-digit-test.true (omega arith) (omega arith) in
    let least = digits_value-take-le 10 word (i + 1) (omega arith) in
    let value = spelled.value in
    omega arith

pub loop-digit-preserved : goal.loop-digit-preserved
loop-digit-preserved c =
    let word = c.args.word.now in
    let i = c.loop-digit.digit-index in
    let more = one_digit_more word i c.loop-digit-test.true (omega arith) (omega arith) in
    record {
      digits = all_digits_more word i c.loop-digit-test.true (omega arith) (omega arith) c.loop-digit.invariant.digits;
      value = omega arith;
      small = omega arith;
      limit = omega arith;
    }
