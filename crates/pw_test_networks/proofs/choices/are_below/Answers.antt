use Rattle.std.proofs.Common.{◌<◌, All, arith, subst}
use Rattle.std.proofs.lemmas.List.{take_all}
use Rattle.std.proofs.lemmas.List.Elements.{All-more}
use Rattle.pw_premises.specs.Premises.{most_premises}
use Rattle.pw_test_networks.proofs.choices.are_below.Goals as goal

pub loop-premise-preserved : goal.loop-premise-preserved
loop-premise-preserved c =
    All-more (λ premise. premise < most_premises) c.args.premises.now c.loop-premise.premise-index 0 c.loop-premise-test.true c.loop-premise.invariant
    (omega (arith, c.if-premise-ge512.false))

pub returns : goal.returns
returns c _ =
    subst (All (λ premise. premise < most_premises)) (take_all c.loop-premise.premise-index c.args.premises.now c.loop-premise-test.false)
    c.loop-premise.invariant
