use Rattle.pw_reasons.proofs.SetLemmas.{one_inserted}
use Rattle.pw_reasons.proofs.combinations.set_of.Goals as goal

pub loop-premise-preserved : goal.loop-premise-preserved
loop-premise-preserved c =
    one_inserted c.loop-premise.set c.insert.new.self c.args.premises.now c.loop-premise.premise-index c.loop-premise-test.true c.loop-premise.invariant c.insert.ensures.inserted
