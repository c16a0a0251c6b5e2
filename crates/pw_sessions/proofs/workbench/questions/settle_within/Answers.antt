use Rattle.std.proofs.Common.{sym, ◌∙◌, subst, arith}
use Rattle.pw_network.specs.Wiring.{wiring}
use Rattle.pw_settle.specs.Growth.{IsFitting}
use Rattle.pw_sessions.specs.Snapshot.{Snapshot, is_within, start_for}
use Rattle.pw_sessions.proofs.AfterSettling.{continues_after, current_after, due_again, due_anew, lie_after, values_after}
use Rattle.pw_sessions.proofs.SnapshotLists.{no_start, position_within, within_there}
use Rattle.pw_sessions.proofs.workbench.questions.settle_within.Goals as goal

-- ---- anew

pub returns-in_default-clause-settled : goal.returns-in_default-clause-settled
returns-in_default-clause-settled g c =
    values_after (wiring c.args.network.now) c.args.network.now.well c.args.store.now c.settle.new.store c.args.worldview.now c.requires.sound.kinds c.requires.sound.sound c.settle.result c.settle.ensures.settles.found

pub returns-in_default-clause-current : goal.returns-in_default-clause-current
returns-in_default-clause-current g c =
    current_after (wiring c.args.network.now) c.args.network.now.well c.args.store.now c.settle.new.store c.args.worldview.now c.requires.sound.kinds c.requires.sound.sound c.settle.result c.settle.ensures.settles.grows c.settle.ensures.settles.found c.settle.ensures.settles.kept

pub returns-in_default-clause-continues : goal.returns-in_default-clause-continues
returns-in_default-clause-continues g c =
    continues_after (wiring c.args.network.now) c.args.network.now.well c.args.store.now c.settle.new.store c.args.worldview.now c.requires.sound.kinds c.requires.sound.sound c.settle.result c.settle.ensures.settles.found

pub returns-in_default-clause-due : goal.returns-in_default-clause-due
returns-in_default-clause-due g c =
    due_anew (wiring c.args.network.now) c.args.network.now.well c.args.store.now c.settle.new.store c.args.worldview.now c.requires.sound.kinds c.requires.sound.sound c.settle.result (start_for c.args.snapshots.now c.args.worldview.now)
    (no_start c.args.snapshots.now c.args.worldview.now c.requires.none (sym c.place_within.ensures ∙ c.in_default.is)) c.settle.ensures.least c.settle.ensures.most

pub returns-in_default-clause-upstream : goal.returns-in_default-clause-upstream
returns-in_default-clause-upstream g c =
    λ given rests. c.settle.ensures.settles.upstream given rests.kept

pub returns-in_default-clause-lie : goal.returns-in_default-clause-lie
returns-in_default-clause-lie g c =
    lie_after (wiring c.args.network.now) c.args.network.now.well c.args.store.now c.settle.new.store c.args.worldview.now c.requires.sound.kinds c.requires.sound.sound c.settle.result c.args.snapshots.now c.settle.ensures.settles.lie

-- ---- from a snapshot within

pub bounds-snapshots-place : goal.bounds-snapshots-place
bounds-snapshots-place g c =
    position_within (is_within c.args.worldview.now) c.args.snapshots.now c.in-Some.place (sym c.place_within.ensures ∙ c.in-Some.is)

pub offset_bounds-snapshots-place : goal.offset_bounds-snapshots-place
offset_bounds-snapshots-place g c =
    let there = position_within (is_within c.args.worldview.now) c.args.snapshots.now c.in-Some.place (sym c.place_within.ensures ∙ c.in-Some.is) in
    omega (arith, there)

pub resettle_from-requires-clause-fits : goal.resettle_from-requires-clause-fits
resettle_from-requires-clause-fits g c =
    subst (λ (s : Snapshot). IsFitting (wiring c.args.network.now) c.args.store.now s.values) (sym (c.start.view_is ∙ c.index-snapshots-place.is))
    (c.requires.fit c.in-Some.place c.index-snapshots-place.result
    (position_within (is_within c.args.worldview.now) c.args.snapshots.now c.in-Some.place (sym c.place_within.ensures ∙ c.in-Some.is))).fits

pub returns-clause-settled : goal.returns-clause-settled
returns-clause-settled g c =
    values_after (wiring c.args.network.now) c.args.network.now.well c.args.store.now c.resettle_from.new.store c.args.worldview.now c.requires.sound.kinds c.requires.sound.sound c.resettle_from.result c.resettle_from.ensures.settles.found

pub returns-clause-current : goal.returns-clause-current
returns-clause-current g c =
    current_after (wiring c.args.network.now) c.args.network.now.well c.args.store.now c.resettle_from.new.store c.args.worldview.now c.requires.sound.kinds c.requires.sound.sound c.resettle_from.result c.resettle_from.ensures.settles.grows c.resettle_from.ensures.settles.found
    c.resettle_from.ensures.settles.kept

pub returns-clause-continues : goal.returns-clause-continues
returns-clause-continues g c =
    continues_after (wiring c.args.network.now) c.args.network.now.well c.args.store.now c.resettle_from.new.store c.args.worldview.now c.requires.sound.kinds c.requires.sound.sound c.resettle_from.result c.resettle_from.ensures.settles.found

pub returns-clause-due : goal.returns-clause-due
returns-clause-due g c =
    due_again (wiring c.args.network.now) c.args.network.now.well c.args.store.now c.resettle_from.new.store c.args.worldview.now c.requires.sound.kinds c.requires.sound.sound
    (record { values = c.start.inside.values; is_current = c.start.inside.is_current }) c.args.snapshots.now
    (within_there c.args.snapshots.now c.args.worldview.now c.in-Some.place c.index-snapshots-place.result _ c.requires.none (sym c.place_within.ensures ∙ c.in-Some.is)
    (c.start.view_is ∙ c.index-snapshots-place.is))
    c.resettle_from.result c.resettle_from.ensures.due

pub returns-clause-upstream : goal.returns-clause-upstream
returns-clause-upstream g c =
    λ given rests. c.resettle_from.ensures.settles.upstream given rests.kept

pub returns-clause-lie : goal.returns-clause-lie
returns-clause-lie g c =
    lie_after (wiring c.args.network.now) c.args.network.now.well c.args.store.now c.resettle_from.new.store c.args.worldview.now c.requires.sound.kinds c.requires.sound.sound c.resettle_from.result c.args.snapshots.now c.resettle_from.ensures.settles.lie
