use Rattle.std.proofs.Common.{◌≡◌, ◌<◌, Bool, List, length, sym, ap, subst, ◌∙◌}
use Rattle.std.proofs.lemmas.List.{length-map}
use Rattle.pw_info.specs.declared.info.Info.{Info}
use Rattle.pw_info.specs.Information.{kind_of}
use Rattle.pw_network.specs.Wiring.{wiring}
use Rattle.pw_settle.specs.Calls.{is_instance_visible}
use Rattle.pw_settle.specs.inside.Queueing.{HasChanged, QueuesReaders, found_of}
use Rattle.pw_settle.specs.Settled.{Settled, info_at}
use Rattle.pw_settle.proofs.FittingValues.{due_flags, kinds_found}
use Rattle.pw_settle.proofs.StoreCells.{cells_kept}
use Rattle.pw_settle.proofs.resettling.due_instances.Goals as goal

pub queue_changed-requires-clause-kinds : goal.queue_changed-requires-clause-kinds
queue_changed-requires-clause-kinds g c cell below =
    subst (λ (l : List Info). kind_of (found_of l c.deref-2.result.now cell) ≡ kind_of (info_at c.deref-2.result.now cell))
    (sym (c.deref.ensures.value ∙ ap (λ (s : Settled). s.infos) c.before-2.view_is))
    (subst (λ (l : List Info). kind_of (found_of c.args.before.now.infos l cell) ≡ kind_of (info_at l cell)) (sym c.deref-2.ensures.value)
    (kinds_found (wiring c.args.network.now) c.args.network.now.well c.args.store.now c.args.worldview.now c.requires.kinds c.args.before.now c.requires.fits
    c.requires.within c.in_ok-known.known.infos.items c.in_ok-known.known.supports c.in_ok-known.ensures.kept cell))

pub returns-clause-due : goal.returns-clause-due
returns-clause-due g c =
    due_flags (wiring c.args.network.now) c.args.network.now.well c.args.store.now c.args.worldview.now c.requires.kinds c.args.before.now c.requires.fits
    c.requires.within c.in_ok-known.known.infos.items c.in_ok-known.known.supports c.in_ok-known.ensures.kept
    c.args.visible.now c.in_ok-agenda.agenda c.queue_changed.new.agenda c.requires.visible c.in_ok-agenda.ensures.flags c.in_ok-agenda.ensures.new
    (subst (λ (l : List Info). QueuesReaders (wiring c.args.network.now) c.args.visible.now
    (λ cell. (cell < length c.in_ok-known.known.infos.items) × HasChanged l c.in_ok-known.known.infos.items cell)
    c.in_ok-agenda.agenda c.queue_changed.new.agenda) (c.deref.ensures.value ∙ ap (λ (s : Settled). s.infos) c.before-2.view_is)
    (subst (λ (l : List Info). QueuesReaders (wiring c.args.network.now) c.args.visible.now
    (λ cell. (cell < length l) × HasChanged c.deref.result.now l cell)
    c.in_ok-agenda.agenda c.queue_changed.new.agenda) c.deref-2.ensures.value
    (subst (λ (seen : List Bool). QueuesReaders (wiring c.args.network.now) seen
    (λ cell. (cell < length c.deref-2.result.now) × HasChanged c.deref.result.now c.deref-2.result.now cell)
    c.in_ok-agenda.agenda c.queue_changed.new.agenda) (sym c.requires.visible) c.queue_changed.ensures)))

pub returns-clause-upstream : goal.returns-clause-upstream
returns-clause-upstream g c given rests = c.in_ok-known.ensures.upstream (wiring c.args.network.now) given rests

pub queue_changed-requires-clause-flags : goal.queue_changed-requires-clause-flags
queue_changed-requires-clause-flags g c =
    c.in_ok-agenda.ensures.flags ∙ ap length c.requires.visible ∙ length-map (wiring c.args.network.now).attached (is_instance_visible c.args.worldview.now)

pub queue_changed-requires-clause-cells : goal.queue_changed-requires-clause-cells
queue_changed-requires-clause-cells g c =
    ap length c.deref-2.ensures.value ∙ c.in_ok-known.ensures.kept.many
    ∙ cells_kept (wiring c.args.network.now) c.args.store.now c.args.network.now.well c.requires.kinds

pub returns-clause-kept : goal.returns-clause-kept
returns-clause-kept g c = c.in_ok-known.ensures.kept

pub returns-clause-told : goal.returns-clause-told
returns-clause-told g c = c.in_ok-known.ensures.told
