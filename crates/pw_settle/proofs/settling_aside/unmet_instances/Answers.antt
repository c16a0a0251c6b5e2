use Rattle.std.proofs.Common.{◌≡◌, ◌<◌, Bool, List, true, length, map, sym, ap, ◌∙◌, subst, inl, inr}
use Rattle.pw_settle.specs.inside.Queueing.{HasChanged, QueuesReaders}
use Rattle.std.specs.FinSet.{is_subset}
use Rattle.std.proofs.lemmas.List.{length-map}
use Rattle.std.proofs.lemmas.Result.{IfOk-weaker}
use Rattle.pw_info.specs.Information.{kind_of}
use Rattle.pw_premises.specs.Premises.{Premises}
use Rattle.pw_network.specs.Wiring.{wiring}
use Rattle.pw_settle.specs.Calls.{is_instance_visible, is_set}
use Rattle.pw_settle.proofs.AsideEnds.{kinds_looked_at, satisfied_by, satisfied_in_part}
use Rattle.pw_settle.proofs.AsideStarts.{found_kinds, settled_kinds}
use Rattle.pw_settle.proofs.SettledValues.{kinds_many}
use Rattle.pw_settle.proofs.settling_aside.unmet_instances.Goals as goal

pub fallen_instances-requires-clause-before : goal.fallen_instances-requires-clause-before
fallen_instances-requires-clause-before g c =
    ap (map kind_of) c.infos-earlier.ensures
    ∙ settled_kinds (wiring c.args.network.now) c.args.network.now.well c.args.store.now c.args.before.now c.requires.before

pub fallen_instances-requires-2-clause-before : goal.fallen_instances-requires-2-clause-before
fallen_instances-requires-2-clause-before g c =
    ap (map kind_of) c.infos-earlier.ensures
    ∙ settled_kinds (wiring c.args.network.now) c.args.network.now.well c.args.store.now c.args.before.now c.requires.before

pub fallen_instances-requires-clause-now : goal.fallen_instances-requires-clause-now
fallen_instances-requires-clause-now g c =
    ap (map kind_of) c.as_slice-now.ensures.value
    ∙ found_kinds (wiring c.args.network.now) c.args.store.now c.args.worldview.now c.args.known.now.infos.items c.args.known.now.supports c.requires.found

pub fallen_instances-requires-2-clause-now : goal.fallen_instances-requires-2-clause-now
fallen_instances-requires-2-clause-now g c =
    ap (map kind_of) c.as_slice-now.ensures.value
    ∙ found_kinds (wiring c.args.network.now) c.args.store.now c.args.worldview.now c.args.known.now.infos.items c.args.known.now.supports c.requires.found

pub queue_changed-requires-clause-kinds : goal.queue_changed-requires-clause-kinds
queue_changed-requires-clause-kinds g c =
    kinds_looked_at (wiring c.args.network.now) c.args.network.now.well c.args.store.now c.requires.sound.kinds c.args.worldview.now c.args.before.now c.requires.before
    c.args.known.now.infos.items c.args.known.now.supports c.requires.found c.infos-earlier.result.now c.as_slice-now.result.now c.infos-earlier.ensures
    c.as_slice-now.ensures.value

pub returns-then-is_subset-clause-satisfied : goal.returns-then-is_subset-clause-satisfied
returns-then-is_subset-clause-satisfied g c =
    let part : is_subset c.args.worldview.now c.args.before.now.worldview ≡ true =
    ap (λ (s : Premises). is_subset c.args.worldview.now s) (sym c.worldview.ensures) ∙ sym c.is_subset.ensures.subset ∙ c.if-is_subset.true in
    IfOk-weaker c.fallen_instances.result _ _ (λ queued met.
    satisfied_in_part (wiring c.args.network.now) c.args.network.now.well c.args.store.now c.requires.sound.kinds c.args.worldview.now c.args.before.now c.requires.before
    c.args.known.now.infos.items c.args.known.now.supports c.requires.found c.requires.sound.sound part c.infos-earlier.result.now c.as_slice-now.result.now c.infos-earlier.ensures
    c.as_slice-now.ensures.value c.args.visible.now queued c.requires.visible met) c.fallen_instances.ensures

pub returns-clause-satisfied : goal.returns-clause-satisfied
returns-clause-satisfied g c =
    satisfied_by (wiring c.args.network.now) c.args.network.now.well c.args.store.now c.requires.sound.kinds c.args.worldview.now c.args.before.now c.requires.before
    c.args.known.now.infos.items c.args.known.now.supports c.requires.found c.infos-earlier.result.now c.as_slice-now.result.now c.infos-earlier.ensures
    c.as_slice-now.ensures.value c.args.visible.now c.deref.result.now c.in_ok-agenda.agenda c.queue_changed.new.agenda c.requires.visible
    (c.deref.ensures.value ∙ c.in_ok-was_visible.ensures
    ∙ ap (λ (w : Premises). map (is_instance_visible w) (wiring c.args.network.now).attached) c.worldview-2.ensures)
    c.in_ok-agenda.ensures
    (subst (λ (seen : List Bool). QueuesReaders (wiring c.args.network.now) seen
    (λ cell. (cell < length c.as_slice-now.result.now) × HasChanged c.infos-earlier.result.now c.as_slice-now.result.now cell)
    c.in_ok-agenda.agenda c.queue_changed.new.agenda) (sym c.requires.visible) c.queue_changed.ensures)

pub fallen_instances-requires-clause-visible : goal.fallen_instances-requires-clause-visible
fallen_instances-requires-clause-visible g c = ap length c.requires.visible ∙ length-map (wiring c.args.network.now).attached (is_instance_visible c.args.worldview.now)

pub fallen_instances-requires-clause-was_visible : goal.fallen_instances-requires-clause-was_visible
fallen_instances-requires-clause-was_visible g c = ap length c.requires.visible ∙ length-map (wiring c.args.network.now).attached (is_instance_visible c.args.worldview.now)

pub fallen_instances-requires-2-clause-visible : goal.fallen_instances-requires-2-clause-visible
fallen_instances-requires-2-clause-visible g c = ap length c.requires.visible ∙ length-map (wiring c.args.network.now).attached (is_instance_visible c.args.worldview.now)

pub fallen_instances-requires-2-clause-was_visible : goal.fallen_instances-requires-2-clause-was_visible
fallen_instances-requires-2-clause-was_visible g c =
    ap length (c.deref.ensures.value ∙ c.in_ok-was_visible.ensures)
    ∙ length-map (wiring c.args.network.now).attached (is_instance_visible c.worldview-2.result.now)

pub queue_changed-requires-clause-flags : goal.queue_changed-requires-clause-flags
queue_changed-requires-clause-flags g c =
    c.in_ok-agenda.ensures.flags ∙ ap length c.requires.visible ∙ length-map (wiring c.args.network.now).attached (is_instance_visible c.args.worldview.now)

pub queue_changed-requires-clause-cells : goal.queue_changed-requires-clause-cells
queue_changed-requires-clause-cells g c =
    ap length c.as_slice-now.ensures.value ∙ c.requires.found.many ∙ kinds_many (wiring c.args.network.now) c.args.network.now.well

pub returns-then-is_subset-clause-flags : goal.returns-then-is_subset-clause-flags
returns-then-is_subset-clause-flags g c =
    IfOk-weaker c.fallen_instances.result _ _ (λ queued met. met.flags ∙ ap length c.requires.visible ∙ length-map (wiring c.args.network.now).attached (is_instance_visible c.args.worldview.now))
    c.fallen_instances.ensures

pub returns-then-is_subset-clause-seen : goal.returns-then-is_subset-clause-seen
returns-then-is_subset-clause-seen g c =
    IfOk-weaker c.fallen_instances.result _ _ (λ queued met n flag. sym (ap (λ (l : List Bool). is_set l n) c.requires.visible) ∙ met.seen n flag)
    c.fallen_instances.ensures

pub returns-clause-flags : goal.returns-clause-flags
returns-clause-flags g c =
    c.queue_changed.ensures.flags ∙ c.in_ok-agenda.ensures.flags ∙ ap length c.requires.visible ∙ length-map (wiring c.args.network.now).attached (is_instance_visible c.args.worldview.now)

pub returns-clause-seen : goal.returns-clause-seen
returns-clause-seen g c n flag = elim (c.queue_changed.ensures.others n flag) [
  | inl was ↦ sym (ap (λ (l : List Bool). is_set l n) c.requires.visible) ∙ c.in_ok-agenda.ensures.seen n was
  | inr read ↦ read.0
]
