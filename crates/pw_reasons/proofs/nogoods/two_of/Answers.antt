use Rattle.pw_reasons.proofs.PairLemmas.{two_numbers}
use Rattle.pw_reasons.proofs.nogoods.two_of.Goals as goal

pub returns-in-None-clause-same : goal.returns-in-None-clause-same
returns-in-None-clause-same c =
    (two_numbers c.args.premises.now c.numbers-numbers.result c.next.new.self c.next-2.new.self c.in_ok-lesser.lesser c.in_ok-greater.greater
    c.numbers-numbers.ensures.list c.numbers-numbers.ensures.members c.in_ok-lesser.ensures.steps c.in_ok-greater.ensures.steps c.in-None.ensures.steps.0).0

pub returns-in-None-clause-rise : goal.returns-in-None-clause-rise
returns-in-None-clause-rise c =
    (two_numbers c.args.premises.now c.numbers-numbers.result c.next.new.self c.next-2.new.self c.in_ok-lesser.lesser c.in_ok-greater.greater
    c.numbers-numbers.ensures.list c.numbers-numbers.ensures.members c.in_ok-lesser.ensures.steps c.in_ok-greater.ensures.steps c.in-None.ensures.steps.0).1

pub returns-in-None-clause-in_range : goal.returns-in-None-clause-in_range
returns-in-None-clause-in_range c =
    (two_numbers c.args.premises.now c.numbers-numbers.result c.next.new.self c.next-2.new.self c.in_ok-lesser.lesser c.in_ok-greater.greater
    c.numbers-numbers.ensures.list c.numbers-numbers.ensures.members c.in_ok-lesser.ensures.steps c.in_ok-greater.ensures.steps c.in-None.ensures.steps.0).2
