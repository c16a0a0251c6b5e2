use Rattle.pw_network.specs.Wiring.{wiring}
use Rattle.pw_settle.proofs.AsideEnds.{found_settled}
use Rattle.pw_settle.proofs.calling_aside.settle_aside_from.Goals as goal

pub returns : goal.returns
returns g c =
    let underway = c.in_ok-calls.ensures.further.underway in
    found_settled (wiring c.args.network.now) c.args.network.now.well c.args.store.now c.requires.underway.kinds c.args.worldview.now c.requires.sound
    c.work_aside.new.known.infos.items c.work_aside.new.known.supports underway.found (λ n d below seen. underway.satisfied n d below seen (c.in_ok-calls.ensures.done n)) _
    c.in_ok-calls.calls 0
