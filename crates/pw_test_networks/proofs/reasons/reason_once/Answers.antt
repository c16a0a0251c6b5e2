use Rattle.pw_network.specs.Wiring.{wiring}
use Rattle.pw_settle.proofs.Growing.{settled_still}
use Rattle.pw_reasons.proofs.NogoodLemmas.{nogoods_same}
use Rattle.pw_test_networks.proofs.reasons.reason_once.Goals as goal

pub reason-requires-clause-nogoods : goal.reason-requires-clause-nogoods
reason-requires-clause-nogoods g c =
    nogoods_same (wiring c.args.network.now) c.args.store.now c.settle.new.store c.settle.ensures.settles.grows.told c.args.nogoods.now c.requires.nogoods

pub reason-requires-clause-settled : goal.reason-requires-clause-settled
reason-requires-clause-settled g c =
    settled_still (wiring c.args.network.now) c.args.store.now c.settle.new.store c.args.worldview.now c.in_ok-settled.settled
    c.settle.ensures.settles.grows (c.in_ok-settled.ensures.settles.found.settled c.requires.sound.sound)
