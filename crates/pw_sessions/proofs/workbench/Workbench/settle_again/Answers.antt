use Rattle.std.proofs.Common.{◌∙◌, set, ap, sym, subst, arith}
use Rattle.std.proofs.lemmas.List.{length-set}
use Rattle.pw_sessions.specs.inside.Fields.{state}
use Rattle.pw_sessions.specs.Snapshot.{AreApart, Snapshot, is_of}
use Rattle.pw_sessions.specs.Workbench.{beliefs_in}
use Rattle.pw_sessions.proofs.ApartSnapshots.{apart_set}
use Rattle.pw_sessions.proofs.SettledAgain.{after_first, after_in_place, after_refused_again, settled_first, settled_in_place}
use Rattle.pw_sessions.proofs.SnapshotLists.{position_within}
use Rattle.pw_sessions.proofs.TurnedLists.{first_brought, others_brought}
use Rattle.pw_sessions.proofs.AfterSettling.{settles_refused}
use Rattle.pw_sessions.proofs.workbench.Workbench.settle_again.Goals as goal

-- ---- the snapshot settled again, or was refused: it is of the same worldview

pub invariant_of-self : goal.invariant_of-self
invariant_of-self g c = record {
  apart = apart_set c.args.self.now.snapshots.items c.args.place c.index_mut-snapshot.result.now c.settle_again.new.self
      (position_within (is_of (beliefs_in (state c.args.self.now) c.args.user)) c.args.self.now.snapshots.items c.args.place c.requires.place)
      (c.settle_again.ensures.worldview ∙ ap (λ (s : Snapshot). s.values.worldview) c.index_mut-snapshot.ensures.value) c.args.self.now.apart;
}

-- ---- it was refused

pub returns-in_err-settle_again : goal.returns-in_err-settle_again
returns-in_err-settle_again g c =
    settles_refused (state c.args.self.now) c.args.user _ c.from_residual.result c.from_residual.ensures.0
    (after_refused_again (state c.args.self.now) c.args.user c.args.place c.index_mut-snapshot.result.now c.index_mut-snapshot.result.now
    c.settle_again.new.self c.settle_again.new.store c.requires.can c.requires.place c.index_mut-snapshot.ensures.value c.settle_again.ensures.worldview
    c.settle_again.ensures.grows c.settle_again.ensures.upstream c.settle_again.ensures.lie c.settle_again.ensures.fits
    c.in_err-settle_again.ensures.unchanged c.requires.calls)
    c.requires.calls

-- ---- the snapshot has not grown

pub returns-then-cells : goal.returns-then-cells
returns-then-cells g c = record {
  settled =
      settled_in_place (state c.args.self.now) c.args.user c.args.place c.index_mut-snapshot.result.now c.index_mut-snapshot.result.now
      c.settle_again.new.self c.settle_again.new.store c.requires.can c.requires.place c.index_mut-snapshot.ensures.value c.settle_again.ensures.worldview
      c.settle_again.ensures.grows c.settle_again.ensures.upstream c.settle_again.ensures.lie c.settle_again.ensures.fits _ c.calls-self.result
      (ap (λ (s : Snapshot). set c.args.self.now.snapshots.items c.args.place s) c.snapshot-2.view_is)
      (c.calls-self.ensures ∙ ap (λ (s : Snapshot). s.values.calls) c.snapshot-2.view_is) c.in_ok-settle_again.ensures.current
      c.in_ok-settle_again.ensures.known c.in_ok-settle_again.ensures.settled c.in_ok-settle_again.ensures.due;
  after =
      after_in_place (state c.args.self.now) c.args.user c.args.place c.index_mut-snapshot.result.now c.index_mut-snapshot.result.now
      c.settle_again.new.self c.settle_again.new.store c.requires.can c.requires.place c.index_mut-snapshot.ensures.value c.settle_again.ensures.worldview
      c.settle_again.ensures.grows c.settle_again.ensures.upstream c.settle_again.ensures.lie c.settle_again.ensures.fits _ c.calls-self.result
      (ap (λ (s : Snapshot). set c.args.self.now.snapshots.items c.args.place s) c.snapshot-2.view_is)
      (c.calls-self.ensures ∙ ap (λ (s : Snapshot). s.values.calls) c.snapshot-2.view_is) c.in_ok-settle_again.ensures.current
      c.in_ok-settle_again.ensures.none;
  refused = tt;
}

-- ---- it has, and is the first one

pub bring_first-requires : goal.bring_first-requires
bring_first-requires g c =
    let there = position_within (is_of (beliefs_in (state c.args.self.now) c.args.user)) c.args.self.now.snapshots.items c.args.place c.requires.place in
    let stored : Snapshot = record { values = c.snapshot-2.inside.values; is_current = c.snapshot-2.inside.is_current } in
    omega (arith, there, length-set c.args.self.now.snapshots.items c.args.place stored)

pub invariant_of-self-2 : goal.invariant_of-self-2
invariant_of-self-2 g c = record {
  apart = c.bring_first.ensures.apart
      (subst AreApart (sym (ap (λ (s : Snapshot). set c.args.self.now.snapshots.items c.args.place s) c.snapshot-2.view_is))
      (apart_set c.args.self.now.snapshots.items c.args.place c.index_mut-snapshot.result.now c.settle_again.new.self
      (position_within (is_of (beliefs_in (state c.args.self.now) c.args.user)) c.args.self.now.snapshots.items c.args.place c.requires.place)
      (c.settle_again.ensures.worldview ∙ ap (λ (s : Snapshot). s.values.worldview) c.index_mut-snapshot.ensures.value) c.args.self.now.apart));
}

pub returns : goal.returns
returns g c = record {
  settled =
      settled_first (state c.args.self.now) c.args.user c.args.place c.index_mut-snapshot.result.now c.index_mut-snapshot.result.now
      c.settle_again.new.self c.settle_again.new.store c.requires.can c.requires.place c.index_mut-snapshot.ensures.value c.settle_again.ensures.worldview
      c.settle_again.ensures.grows c.settle_again.ensures.upstream c.settle_again.ensures.lie c.settle_again.ensures.fits
      c.bring_first.new.snapshots.items c.bring_first.ensures.left c.calls-self.result
      (first_brought c.args.self.now.beliefs.items c.deref.result.now c.deref.ensures.value c.args.self.now.snapshots.items _ c.bring_first.new.snapshots.items c.args.place c.settle_again.new.self
      (position_within (is_of (beliefs_in (state c.args.self.now) c.args.user)) c.args.self.now.snapshots.items c.args.place c.requires.place)
      (ap (λ (s : Snapshot). set c.args.self.now.snapshots.items c.args.place s) c.snapshot-2.view_is) c.bring_first.ensures)
      (others_brought c.args.self.now.beliefs.items c.deref.result.now c.deref.ensures.value c.args.self.now.snapshots.items _ c.bring_first.new.snapshots.items c.args.place c.settle_again.new.self
      (position_within (is_of (beliefs_in (state c.args.self.now) c.args.user)) c.args.self.now.snapshots.items c.args.place c.requires.place)
      (ap (λ (s : Snapshot). set c.args.self.now.snapshots.items c.args.place s) c.snapshot-2.view_is) c.bring_first.ensures)
      (c.calls-self.ensures ∙ ap (λ (s : Snapshot). s.values.calls) c.snapshot-2.view_is) c.in_ok-settle_again.ensures.known
      c.in_ok-settle_again.ensures.current c.in_ok-settle_again.ensures.settled c.in_ok-settle_again.ensures.due;
  after =
      after_first (state c.args.self.now) c.args.user c.args.place c.index_mut-snapshot.result.now c.index_mut-snapshot.result.now
      c.settle_again.new.self c.settle_again.new.store c.requires.can c.requires.place c.index_mut-snapshot.ensures.value c.settle_again.ensures.worldview
      c.settle_again.ensures.grows c.settle_again.ensures.upstream c.settle_again.ensures.lie c.settle_again.ensures.fits
      c.bring_first.new.snapshots.items c.bring_first.ensures.left c.calls-self.result
      (first_brought c.args.self.now.beliefs.items c.deref.result.now c.deref.ensures.value c.args.self.now.snapshots.items _ c.bring_first.new.snapshots.items c.args.place c.settle_again.new.self
      (position_within (is_of (beliefs_in (state c.args.self.now) c.args.user)) c.args.self.now.snapshots.items c.args.place c.requires.place)
      (ap (λ (s : Snapshot). set c.args.self.now.snapshots.items c.args.place s) c.snapshot-2.view_is) c.bring_first.ensures)
      (others_brought c.args.self.now.beliefs.items c.deref.result.now c.deref.ensures.value c.args.self.now.snapshots.items _ c.bring_first.new.snapshots.items c.args.place c.settle_again.new.self
      (position_within (is_of (beliefs_in (state c.args.self.now) c.args.user)) c.args.self.now.snapshots.items c.args.place c.requires.place)
      (ap (λ (s : Snapshot). set c.args.self.now.snapshots.items c.args.place s) c.snapshot-2.view_is) c.bring_first.ensures)
      (c.calls-self.ensures ∙ ap (λ (s : Snapshot). s.values.calls) c.snapshot-2.view_is) c.in_ok-settle_again.ensures.known
      c.in_ok-settle_again.ensures.current c.in_ok-settle_again.ensures.none;
  refused = tt;
}
