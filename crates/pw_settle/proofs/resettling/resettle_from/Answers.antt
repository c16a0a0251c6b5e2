use Rattle.std.proofs.Common.{◌≡◌, ◌+◌, ◌≤◌, true, false, sym, ap, subst, ◌∙◌}
use Rattle.std.proofs.lemmas.Result.{IfOk-weaker}
use Rattle.std.specs.FinSet.{is_subset}
use Rattle.pw_cells.specs.Cells.{Store}
use Rattle.pw_network.specs.Wiring.{wiring}
use Rattle.pw_settle.specs.Calls.{tally}
use Rattle.pw_settle.specs.Calls.{CallsAtMost, gains, visible_count}
use Rattle.pw_settle.specs.inside.Progress.{IsUnderway}
use Rattle.pw_settle.specs.Settled.{Settled}
use Rattle.pw_settle.specs.Due.{CallsEachAtLeast, CallsEachAtMost, CallsWhatIsDue}
use Rattle.pw_settle.specs.inside.Known.{SaysTold}
use Rattle.pw_settle.proofs.FittingValues.{satisfied_but_due}
use Rattle.pw_settle.proofs.NewInstances.{both_ok}
use Rattle.pw_settle.proofs.Settlings.{settles_from}
use Rattle.pw_settle.proofs.resettling.resettle_from.Goals as goal

pub due_instances-requires-clause-within : goal.due_instances-requires-clause-within
due_instances-requires-clause-within g c =
    ap (λ (s : Settled). is_subset s.worldview c.args.worldview.now) (sym c.before-2.view_is) ∙ sym c.is_subset.ensures.subset ∙ c.if-not-is_subset.false

pub settle_from-requires-clause-underway : goal.settle_from-requires-clause-underway
settle_from-requires-clause-underway g c =
    let network = wiring c.args.network.now in
    let w = c.args.worldview.now in
    subst (λ (s : Store). IsUnderway network s w c.in_ok-known.known.infos.items c.in_ok-known.known.supports c.in_ok-known.agenda)
    (sym {A = Store} c.due_instances.ensures.unchanged)
    (record {
      kinds = c.requires.kinds;
      kept = c.in_ok-known.ensures.kept;
      flags = c.in_ok-known.ensures.due.many;
      seen = λ n flag. ((c.in_ok-known.ensures.due.are n).0 flag).0;
      satisfied = satisfied_but_due network c.args.network.now.well c.args.store.now w c.requires.kinds c.args.before.now c.requires.fits
          (ap (λ (s : Settled). is_subset s.worldview w) (sym c.before-2.view_is) ∙ sym c.is_subset.ensures.subset ∙ c.if-not-is_subset.false)
          c.in_ok-known.agenda c.in_ok-known.ensures.due;
    })

pub settle_from-requires-clause-told : goal.settle_from-requires-clause-told
settle_from-requires-clause-told g c =
    subst (λ (s : Store). SaysTold s c.args.worldview.now) (sym {A = Store} c.due_instances.ensures.unchanged) c.in_ok-known.ensures.told

pub returns-clause-due : goal.returns-clause-due
returns-clause-due g c =
    both_ok c.settle_from.result
    (λ settled. tally c.in_ok-known.agenda ≤ settled.calls)
    (λ settled. settled.calls ≤ tally c.in_ok-known.agenda
    + gains (wiring c.args.network.now) c.due_instances.new.store c.settle_from.new.store c.args.worldview.now)
    _ (λ settled least most within. (
      c.in_ok-known.agenda,
      c.in_ok-known.ensures.due,
      least,
      subst (λ (s : Store). settled.calls ≤ tally c.in_ok-known.agenda + gains (wiring c.args.network.now) s c.settle_from.new.store c.args.worldview.now)
          c.due_instances.ensures.unchanged most,
    )) c.settle_from.ensures.least c.settle_from.ensures.most

pub returns-clause-least : goal.returns-clause-least
returns-clause-least g c =
    let within : is_subset c.args.before.now.worldview c.args.worldview.now ≡ true =
    ap (λ (s : Settled). is_subset s.worldview c.args.worldview.now) (sym c.before-2.view_is) ∙ sym c.is_subset.ensures.subset ∙ c.if-not-is_subset.false in
    IfOk-weaker c.settle_from.result (λ settled. tally c.in_ok-known.agenda ≤ settled.calls)
    (CallsEachAtLeast (wiring c.args.network.now) c.args.worldview.now c.args.before.now)
    (λ settled least apart. absurd (cc)) c.settle_from.ensures.least

pub returns-clause-most : goal.returns-clause-most
returns-clause-most g c =
    let within : is_subset c.args.before.now.worldview c.args.worldview.now ≡ true =
    ap (λ (s : Settled). is_subset s.worldview c.args.worldview.now) (sym c.before-2.view_is) ∙ sym c.is_subset.ensures.subset ∙ c.if-not-is_subset.false in
    IfOk-weaker c.settle_from.result (λ settled. tally c.in_ok-known.agenda ≤ settled.calls)
    (CallsEachAtMost (wiring c.args.network.now) c.args.store.now c.settle_from.new.store c.args.worldview.now c.args.before.now)
    (λ settled least apart. absurd (cc)) c.settle_from.ensures.least

pub returns-then-not-is_subset-clause-due : goal.returns-then-not-is_subset-clause-due
returns-then-not-is_subset-clause-due g c =
    let apart : is_subset c.args.before.now.worldview c.args.worldview.now ≡ false =
    ap (λ (s : Settled). is_subset s.worldview c.args.worldview.now) (sym c.before-2.view_is) ∙ sym c.is_subset.ensures.subset ∙ c.if-not-is_subset.true in
    IfOk-weaker c.settle.result (λ settled. visible_count (wiring c.args.network.now) c.args.worldview.now ≤ settled.calls)
    (CallsWhatIsDue (wiring c.args.network.now) c.args.store.now c.settle.new.store c.args.worldview.now c.args.before.now)
    (λ settled least within. absurd (cc)) c.settle.ensures.least

pub returns-then-not-is_subset-clause-least : goal.returns-then-not-is_subset-clause-least
returns-then-not-is_subset-clause-least g c =
    IfOk-weaker c.settle.result (λ settled. visible_count (wiring c.args.network.now) c.args.worldview.now ≤ settled.calls)
    (CallsEachAtLeast (wiring c.args.network.now) c.args.worldview.now c.args.before.now)
    (λ settled least apart. least) c.settle.ensures.least

pub returns-then-not-is_subset-clause-most : goal.returns-then-not-is_subset-clause-most
returns-then-not-is_subset-clause-most g c =
    IfOk-weaker c.settle.result (CallsAtMost (wiring c.args.network.now) c.args.store.now c.settle.new.store c.args.worldview.now)
    (CallsEachAtMost (wiring c.args.network.now) c.args.store.now c.settle.new.store c.args.worldview.now c.args.before.now)
    (λ settled most apart. most) c.settle.ensures.most

pub returns-clause-settles : goal.returns-clause-settles
returns-clause-settles g c =
    settles_from (wiring c.args.network.now) c.args.store.now c.due_instances.new.store c.settle_from.new.store c.args.worldview.now c.settle_from.result
    c.in_ok-known.known.supports c.due_instances.ensures.unchanged c.in_ok-known.ensures.upstream c.settle_from.ensures.found
    c.settle_from.ensures.kept c.settle_from.ensures.grows c.settle_from.ensures.upstream c.settle_from.ensures.lie
