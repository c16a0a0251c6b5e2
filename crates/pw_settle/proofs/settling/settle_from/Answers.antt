use Rattle.std.proofs.Common.{◌≡◌, ◌+◌, ◌≤◌, length, sym, ap, ◌∙◌, subst}
use Rattle.std.proofs.lemmas.List.{length-map}
use Rattle.pw_cells.specs.Cells.{Cell, Store}
use Rattle.pw_network.specs.Wiring.{wiring}
use Rattle.pw_network.specs.inside.Held.{attachment}
use Rattle.pw_settle.specs.Calls.{gains, tally}
use Rattle.pw_settle.specs.Growth.{HasValues, KeepsIfSound}
use Rattle.pw_settle.specs.Settled.{Settled}
use Rattle.pw_settle.specs.Sound.{RestsUpstream}
use Rattle.pw_settle.specs.inside.Known.{AreUpstream}
use Rattle.pw_settle.proofs.RefusedSettlings.{values_found}
use Rattle.pw_settle.proofs.SettledStores.{calls_by_gains, kept_settled}
use Rattle.pw_settle.proofs.settling.settle_from.Goals as goal

pub returns-in_err-calls-clause-upstream : goal.returns-in_err-calls-clause-upstream
returns-in_err-calls-clause-upstream g c given rests lie = (c.work.ensures.further.upstream given (record { kept = rests; known = lie })).kept

pub returns-clause-kept : goal.returns-clause-kept
returns-clause-kept g c =
    subst (λ (s : Store). KeepsIfSound (wiring c.args.network.now) c.args.store.now s c.args.worldview.now) (sym {A = Store} c.mark.ensures.unchanged)
    (λ sound. kept_settled (wiring c.args.network.now) c.args.network.now.well c.args.store.now c.work.new.store c.args.worldview.now c.requires.underway.kinds
    c.work.ensures.further.grows c.requires.told c.work.new.agenda c.in_ok-calls.ensures.further.underway.satisfied c.in_ok-calls.ensures.done sound)

pub returns-clause-upstream : goal.returns-clause-upstream
returns-clause-upstream g c given rests lie =
    subst (RestsUpstream (wiring c.args.network.now) given) (sym {A = Store} c.mark.ensures.unchanged)
    (c.work.ensures.further.upstream given (record { kept = rests; known = lie })).kept

pub returns-clause-lie : goal.returns-clause-lie
returns-clause-lie g c given are =
    subst (λ (s : Store). AreUpstream (wiring c.args.network.now) given s c.work.new.known.supports) (sym {A = Store} c.mark.ensures.unchanged)
    (c.work.ensures.further.upstream given are)

pub returns-clause-most : goal.returns-clause-most
returns-clause-most g c =
    let same : length c.work.new.store.cells ≡ length c.args.store.now.cells =
    sym (length-map c.work.new.store.cells (λ (x : Cell). x.kind)) ∙ ap length c.work.ensures.further.grows.kinds ∙ length-map c.args.store.now.cells (λ (x : Cell). x.kind) in
    subst (λ (s : Store). c.in_ok-calls.calls ≤ tally c.args.agenda + gains (wiring c.args.network.now) c.args.store.now s c.args.worldview.now)
    (sym {A = Store} c.mark.ensures.unchanged)
    (calls_by_gains (wiring c.args.network.now) c.args.store.now c.work.new.store c.args.worldview.now c.in_ok-calls.calls (tally c.args.agenda)
    same c.in_ok-calls.ensures.most)

pub returns-clause-found : goal.returns-clause-found
returns-clause-found g c =
    let network = wiring c.args.network.now in
    let infos = c.work.new.known.infos.items in
    let supports = c.work.new.known.supports in
    let many = length c.instances.result.now in
    let all : many ≡ length network.attached = sym (length-map c.instances.result.now attachment) ∙ ap length c.instances.ensures.instances in
    let values : Settled =
    record { infos = infos; supports = supports; worldview = c.args.worldview.now; instances = many; calls = c.in_ok-calls.calls; mark = c.mark.result } in
    subst (λ (s : Store). HasValues network c.args.store.now s c.args.worldview.now values) (sym {A = Store} c.mark.ensures.unchanged)
    (values_found network c.args.network.now.well c.args.store.now c.work.new.store c.args.worldview.now c.requires.underway.kinds c.work.ensures.further.grows
    c.requires.told c.work.new.agenda c.in_ok-calls.ensures.further.underway.satisfied c.in_ok-calls.ensures.done infos supports c.in_ok-calls.ensures.further.underway.kept
    many c.in_ok-calls.calls c.mark.result all c.mark.ensures.mark)
