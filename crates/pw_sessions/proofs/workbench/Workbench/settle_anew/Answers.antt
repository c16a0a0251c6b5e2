use Rattle.std.proofs.Common.{List, refl, subst}
use Rattle.pw_premises.specs.Premises.{Premises}
use Rattle.pw_sessions.specs.inside.Fields.{state}
use Rattle.pw_sessions.specs.inside.Steps.{IsLatest, RestOnUpstreamOf, StaysUpstreamOf}
use Rattle.pw_sessions.specs.Snapshot.{Snapshot}
use Rattle.pw_sessions.specs.Workbench.{Workbench, beliefs_in}
use Rattle.pw_settle.specs.Settled.{IsSettled}
use Rattle.pw_sessions.proofs.SettledAnew.{after_refused_anew, after_settled_anew, due_read, settled_anew}
use Rattle.pw_sessions.proofs.AfterSettling.{settles_refused}
use Rattle.pw_sessions.proofs.workbench.Workbench.settle_anew.Goals as goal

pub returns-in_err-settled : goal.returns-in_err-settled
returns-in_err-settled g c =
    let old : Workbench = state c.args.self.now in
    settles_refused old c.args.user _ c.from_residual.result c.from_residual.ensures.0
    (after_refused_anew old c.args.user c.settle_within.new.store c.requires.can c.settle_within.ensures.grows
    (subst (λ (l : List Snapshot). StaysUpstreamOf old.network old.store l c.settle_within.new.store) c.deref.ensures.value c.settle_within.ensures.upstream)
    old.snapshots refl c.requires.calls)
    c.requires.calls

pub returns-in_err-remember : goal.returns-in_err-remember
returns-in_err-remember g c =
    let old : Workbench = state c.args.self.now in
    settles_refused old c.args.user _ c.from_residual-in_err-remember.result c.from_residual-in_err-remember.ensures.0
    (after_refused_anew old c.args.user c.settle_within.new.store c.requires.can c.settle_within.ensures.grows
    (subst (λ (l : List Snapshot). StaysUpstreamOf old.network old.store l c.settle_within.new.store) c.deref.ensures.value c.settle_within.ensures.upstream)
    c.remember.new.snapshots.items c.in_err-remember.ensures.err c.requires.calls)
    c.requires.calls

pub returns : goal.returns
returns g c = record {
  settled =
      let old : Workbench = state c.args.self.now in
      settled_anew old c.args.user c.settle_within.new.store c.requires.can c.settle_within.ensures.grows
      (subst (λ (l : List Snapshot). StaysUpstreamOf old.network old.store l c.settle_within.new.store) c.deref.ensures.value c.settle_within.ensures.upstream)
      c.remember.new.snapshots.items c.calls-calls.result c.in_ok-settled.settled
      (subst (λ (bs : List Premises). IsLatest bs old.snapshots c.in_ok-settled.settled c.remember.new.snapshots.items) c.deref-2.ensures.value
      c.in_ok-remember.ensures.ok)
      (subst (λ (w : Premises). IsSettled old.network old.store w c.in_ok-settled.settled) c.beliefs_of-beliefs.ensures c.in_ok-settled.ensures.settled)
      c.in_ok-settled.ensures.current
      (due_read old.store c.settle_within.new.store old.network c.beliefs_of-beliefs.result (beliefs_in old c.args.user) c.deref.result.now old.snapshots
      c.in_ok-settled.settled.calls c.calls-calls.result c.beliefs_of-beliefs.ensures c.deref.ensures.value c.calls-calls.ensures
      c.in_ok-settled.ensures.due);
  after =
      let old : Workbench = state c.args.self.now in
      after_settled_anew old c.args.user c.settle_within.new.store c.requires.can c.settle_within.ensures.grows
      (subst (λ (l : List Snapshot). StaysUpstreamOf old.network old.store l c.settle_within.new.store) c.deref.ensures.value c.settle_within.ensures.upstream)
      c.remember.new.snapshots.items c.calls-calls.result c.in_ok-settled.settled
      (subst (λ (bs : List Premises). IsLatest bs old.snapshots c.in_ok-settled.settled c.remember.new.snapshots.items) c.deref-2.ensures.value
      c.in_ok-remember.ensures.ok)
      (subst (λ (w : Premises). IsSettled old.network old.store w c.in_ok-settled.settled) c.beliefs_of-beliefs.ensures c.in_ok-settled.ensures.settled)
      c.in_ok-settled.ensures.current c.args.self.now.network.well c.requires.none c.in_ok-settled.ensures.continues
      (subst (λ (l : List Snapshot). RestOnUpstreamOf old.network old.store l c.in_ok-settled.settled) c.deref.ensures.value c.in_ok-settled.ensures.lie);
  refused = tt;
}
