use Rattle.std.proofs.Common.{◌≡◌, Bool, List, ap, subst, arith}
use Rattle.std.specs.List.{count_by}
use Rattle.pw_network.specs.Readers.{readers_of}
use Rattle.pw_network.specs.Wiring.{wiring}
use Rattle.pw_settle.specs.Calls.{is_set}
use Rattle.pw_settle.specs.inside.Queueing.{QueuesReaders}
use Rattle.pw_settle.proofs.SeenInstances.{all_seen, listed_seen}
use Rattle.pw_settle.proofs.readers.queue_visible_readers.Goals as goal

pub returns-then-sees_all-clause-readers : goal.returns-then-sees_all-clause-readers
returns-then-sees_all-clause-readers g c =
    let network = wiring c.args.network.now in
    subst (λ (seen : List Bool). QueuesReaders network seen (λ cell. cell ≡ c.args.cell) c.args.agenda.now c.queue_seen_readers.new.agenda)
    (all_seen network c.instances-instances.result.now c.args.worldview.now c.instances-instances.ensures.instances (c.requires.all c.if-sees_all.true))
    c.queue_seen_readers.ensures.readers

pub returns-then-sees_all-clause-most : goal.returns-then-sees_all-clause-most
returns-then-sees_all-clause-most g c =
    let network = wiring c.args.network.now in
    let same = all_seen network c.instances-instances.result.now c.args.worldview.now c.instances-instances.ensures.instances (c.requires.all c.if-sees_all.true) in
    omega (arith, c.queue_seen_readers.ensures.most, ap (λ (seen : List Bool). count_by (is_set seen) (readers_of network c.args.cell)) same)

pub returns-clause-readers : goal.returns-clause-readers
returns-clause-readers g c =
    let network = wiring c.args.network.now in
    subst (λ (seen : List Bool). QueuesReaders network seen (λ cell. cell ≡ c.args.cell) c.args.agenda.now c.queue_seen_readers-2.new.agenda)
    (listed_seen network c.instances-instances.result.now c.args.worldview.now c.instances-instances.ensures.instances) c.queue_seen_readers-2.ensures.readers

pub returns-clause-most : goal.returns-clause-most
returns-clause-most g c =
    let network = wiring c.args.network.now in
    let same = listed_seen network c.instances-instances.result.now c.args.worldview.now c.instances-instances.ensures.instances in
    omega (arith, c.queue_seen_readers-2.ensures.most, ap (λ (seen : List Bool). count_by (is_set seen) (readers_of network c.args.cell)) same)
