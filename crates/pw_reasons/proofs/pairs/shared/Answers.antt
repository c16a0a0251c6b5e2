use Rattle.pw_reasons.proofs.PairLemmas.{shared_next}
use Rattle.pw_reasons.proofs.pairs.shared.Goals as goal

pub returns-clause-some : goal.returns-clause-some
returns-clause-some c = (shared_next c.args.set.now c.args.other.now c.difference.result c.difference-2.result c.difference.ensures.difference c.difference-2.ensures.difference
    c.numbers.result c.next.new.self c.next.result c.numbers.ensures.list c.numbers.ensures.members c.next.ensures.steps).0

pub returns-clause-none : goal.returns-clause-none
returns-clause-none c = (shared_next c.args.set.now c.args.other.now c.difference.result c.difference-2.result c.difference.ensures.difference c.difference-2.ensures.difference
    c.numbers.result c.next.new.self c.next.result c.numbers.ensures.list c.numbers.ensures.members c.next.ensures.steps).1
