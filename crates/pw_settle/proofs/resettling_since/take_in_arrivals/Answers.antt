use Rattle.std.proofs.Common.{◌≡◌, ◌<◌, ℕ, Contains, Some, List, length, get_or, refl, sym, ◌∙◌, subst, arith, map}
use Rattle.pw_settle.specs.Calls.{is_instance_visible}
use Rattle.std.specs.Prelude.{◌-◌}
use Rattle.std.proofs.lemmas.List.{get_or_default}
use Rattle.std.proofs.lemmas.List.Elements.{All-contains}
use Rattle.pw_info.specs.declared.info.Info.{Info}
use Rattle.pw_premises.specs.Premises.{Premises}
use Rattle.pw_cells.specs.declared.arrival.Arrival.{Arrival}
use Rattle.pw_cells.specs.Arrivals.{IsKept, since}
use Rattle.pw_network.specs.Wiring.{wiring}
use Rattle.pw_settle.specs.Settled.{Settled}
use Rattle.pw_settle.specs.inside.Since.{AreReadTo, known_at}
use Rattle.pw_settle.proofs.CameSince.{AreTakenIn, came_upstream, taken_kept, taken_none}
use Rattle.pw_settle.proofs.QueuedNews.{none_at_first, one_taken}
use Rattle.pw_settle.proofs.ReadSince.{read_first}
use Rattle.pw_settle.proofs.resettling_since.take_in_arrivals.Given as given
use Rattle.pw_settle.proofs.resettling_since.take_in_arrivals.Goals as goal

-- what is known at first, as settled values
abbrev first : (g : given.Over) → goal.After-loop-left g → Settled
first g c = known_at c.args.known.now.infos.items c.args.known.now.supports c.args.worldview.now c.args.mark

pub loop-left-init : goal.loop-left-init
loop-left-init g c =
    let hand = c.requires.known in
    let infos : List Info = c.args.known.now.infos.items in
    let supports : List Premises = c.args.known.now.supports in
    record {
      within = omega arith;
      taken = taken_none c.args.store.now (known_at infos supports c.args.worldview.now c.args.mark) hand.continues hand.kinds infos supports
          (subst (λ (n : ℕ). AreReadTo c.args.store.now c.args.worldview.now n infos infos supports supports) hand.many
          (read_first c.args.store.now c.args.worldview.now infos supports hand.continues.as_many))
          c.in-Some.arrivals.now;
      flags = refl;
      queued = none_at_first (wiring c.args.network.now) (map (is_instance_visible c.args.worldview.now) (wiring c.args.network.now).attached) infos
          c.args.agenda.now;
    }

pub loop-left-preserved : goal.loop-left-preserved
loop-left-preserved g c =
    let list : List Arrival = c.in-Some.arrivals.now in
    let a : Arrival = c.index-arrivals-left.result in
    let before : Settled = known_at c.args.known.now.infos.items c.args.known.now.supports c.args.worldview.now c.args.mark in
    let some_left = c.loop-left-test.true in
    let place : ℕ = c.loop-left.left - 1 in
    let here : place < length list = omega (arith, some_left, c.loop-left.invariant.within) in
    let is : (d : Arrival) → get_or list place d ≡ a =
    λ d. get_or_default list place d a here ∙ sym c.index-arrivals-left.is in
    let came : since c.args.store.now c.args.mark ≡ Some list = c.in-Some.ensures.some in
    let among : Contains list a = (place, here, is a) in
    let kept : IsKept c.args.store.now a = All-contains (IsKept c.args.store.now) list a (c.requires.known.continues.accounted.came list came) among in
    let network = wiring c.args.network.now in
    let so_far = subst (λ (n : ℕ). AreTakenIn c.args.store.now before list n c.loop-left.known.infos.items c.loop-left.known.supports) (omega (arith, some_left))
    c.loop-left.invariant.taken in
    let step =
    one_taken network (map (is_instance_visible c.args.worldview.now) network.attached) c.args.store.now before list place
    c.loop-left.known.infos.items c.loop-left.known.supports so_far a is kept
    (λ network given rests. came_upstream c.args.store.now c.args.mark list came network given rests a among)
    c.take_in_arrival.new.known.infos.items c.take_in_arrival.new.known.supports c.loop-left.agenda c.take_in_arrival.new.agenda
    c.take_in_arrival.ensures in
    record {
      within = omega (arith, here);
      taken = step.taken;
      flags = step.flags ∙ c.loop-left.invariant.flags;
      queued = step.queues c.args.agenda.now c.loop-left.invariant.queued;
    }

-- after the first one all were taken in
all_taken : (g : given.Over) (c : goal.After-loop-left g) →
    AreTakenIn c.args.store.now (first g c) c.in-Some.arrivals.now 0 c.loop-left.known.infos.items c.loop-left.known.supports
all_taken g c =
    subst (λ (n : ℕ). AreTakenIn c.args.store.now (first g c) c.in-Some.arrivals.now n c.loop-left.known.infos.items c.loop-left.known.supports)
    (omega (arith, c.loop-left-test.false)) c.loop-left.invariant.taken

pub returns-clause-taken : goal.returns-clause-taken
returns-clause-taken g c = record {
  kept = taken_kept c.args.store.now (first g c) c.requires.known.continues c.in-Some.arrivals.now c.in-Some.ensures.some
      c.loop-left.known.infos.items c.loop-left.known.supports (all_taken g c);
  queues = c.loop-left.invariant.queued;
}
