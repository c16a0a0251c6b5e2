use Rattle.pw_network.specs.Wiring.{wiring}
use Rattle.pw_settle.specs.Settled.{IsSettled}
use Rattle.pw_reasons.proofs.ChoiceLemmas.{contradiction_nogood, if_some}
use Rattle.pw_reasons.proofs.trying.contradicts_before.Goals as goal

pub returns-in-Some-clause-some : goal.returns-in-Some-clause-some
returns-in-Some-clause-some g c is =
    contradiction_nogood (wiring c.args.network.now) c.args.store.now c.args.part.now c.in-Some.values
    (if_some (IsSettled (wiring c.args.network.now) c.args.store.now c.args.part.now) c.in_ok-values.field-0 c.in-Some.values c.in-Some.is
    c.in_ok-values.ensures.settled) c.take_in_values.new.tried.nogood (c.take_in_values.ensures.some is)
