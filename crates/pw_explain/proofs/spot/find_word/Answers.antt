use Rattle.std.proofs.Common.{◌≡◌, ℕ, subst, arith}
use Rattle.pw_explain.specs.Spot.{PassesWords}
use Rattle.pw_explain.proofs.WordPlaces.{all_passed, next_is_at, none_passed, one_passed}
use Rattle.pw_explain.proofs.spot.find_word.Goals as goal

pub loop-init : goal.loop-init
loop-init c = none_passed c.args.line.now

pub returns-in-None-clause-err : goal.returns-in-None-clause-err
returns-in-None-clause-err c = all_passed c.args.line.now c.loop.counter c.args.number c.loop.end c.loop.invariant (omega (arith, c.loop-test.true)) c.in-None.ensures.none

pub loop-preserved : goal.loop-preserved
loop-preserved c = one_passed c.args.line.now c.loop.counter c.loop.end c.in-Some.word c.loop.invariant c.in-Some.ensures.some

pub returns-in-Some-next_word-clause-ok : goal.returns-in-Some-next_word-clause-ok
returns-in-Some-next_word-clause-ok c =
    let all : c.loop.counter ≡ c.args.number = omega (arith, c.loop-test.false, c.loop.auto.counter-end) in
    next_is_at c.args.line.now c.args.number c.loop.end c.in-Some-next_word.word (subst (λ (passed : ℕ). PassesWords c.args.line.now passed c.loop.end) all c.loop.invariant) c.in-Some-next_word.ensures.some

pub returns-in-None-next_word-clause-err : goal.returns-in-None-next_word-clause-err
returns-in-None-next_word-clause-err c =
    all_passed c.args.line.now c.loop.counter c.args.number c.loop.end c.loop.invariant c.loop.auto.counter-end c.in-None-next_word.ensures.none
