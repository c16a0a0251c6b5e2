use Rattle.std.proofs.Common.{◌≡◌, ◌+◌, ◌≤◌, Bool, true, List, length, map, sym, ap, subst, ◌∙◌}
use Rattle.std.specs.Prelude.{IfOk}
use Rattle.std.proofs.lemmas.List.{length-map}
use Rattle.pw_cells.specs.Cells.{Store}
use Rattle.pw_network.specs.Wiring.{wiring}
use Rattle.pw_settle.specs.Calls.{is_set, tally}
use Rattle.pw_settle.specs.Calls.{gains, is_instance_visible, visible_count}
use Rattle.pw_settle.specs.inside.Known.{SaysTold}
use Rattle.pw_settle.specs.inside.Progress.{IsUnderway}
use Rattle.pw_settle.proofs.KeptProgress.{visible_no}
use Rattle.pw_settle.proofs.SettledStores.{tally_visible}
use Rattle.pw_settle.proofs.Settlings.{settles_from}
use Rattle.pw_settle.proofs.settling.settle.Goals as goal

pub settle_from-requires-clause-underway : goal.settle_from-requires-clause-underway
settle_from-requires-clause-underway g c =
    let network = wiring c.args.network.now in
    let w = c.args.worldview.now in
    let flags : c.in_ok-agenda.agenda ≡ map (is_instance_visible w) network.attached =
    c.in_ok-agenda.ensures ∙ c.deref.ensures.value ∙ c.in_ok-visible.ensures in
    subst (λ (s : Store). IsUnderway network s w c.in_ok-known.known.infos.items c.in_ok-known.known.supports c.in_ok-agenda.agenda)
    (sym {A = Store} c.read_kept.ensures.unchanged)
    (record {
      kinds = c.requires;
      kept = c.in_ok-known.ensures.kept;
      flags = ap length flags ∙ length-map network.attached (is_instance_visible w);
      seen = λ n flag. sym (ap (λ (l : List Bool). is_set l n) flags) ∙ flag;
      satisfied = λ n d below seen free.
          let flag : is_set c.in_ok-agenda.agenda n ≡ true =
          ap (λ (l : List Bool). is_set l n) flags ∙ sym (visible_no network w n d below) ∙ seen in
          absurd (cc);
    })

pub settle_from-requires-clause-told : goal.settle_from-requires-clause-told
settle_from-requires-clause-told g c = subst (λ (s : Store). SaysTold s c.args.worldview.now) (sym {A = Store} c.read_kept.ensures.unchanged) c.in_ok-known.ensures.told

pub returns-clause-most : goal.returns-clause-most
returns-clause-most g c =
    let flags : c.in_ok-agenda.agenda ≡ map (is_instance_visible c.args.worldview.now) (wiring c.args.network.now).attached =
    c.in_ok-agenda.ensures ∙ c.deref.ensures.value ∙ c.in_ok-visible.ensures in
    let count : tally c.in_ok-agenda.agenda ≡ visible_count (wiring c.args.network.now) c.args.worldview.now =
    ap tally flags ∙ tally_visible (is_instance_visible c.args.worldview.now) (wiring c.args.network.now).attached in
    subst (λ n. IfOk c.settle_from.result (λ settled. settled.calls ≤ n + gains (wiring c.args.network.now) c.args.store.now c.settle_from.new.store c.args.worldview.now))
    count
    (subst (λ (s : Store). IfOk c.settle_from.result
    (λ settled. settled.calls ≤ tally c.in_ok-agenda.agenda + gains (wiring c.args.network.now) s c.settle_from.new.store c.args.worldview.now))
    c.read_kept.ensures.unchanged c.settle_from.ensures.most)

pub returns-clause-least : goal.returns-clause-least
returns-clause-least g c =
    let flags : c.in_ok-agenda.agenda ≡ map (is_instance_visible c.args.worldview.now) (wiring c.args.network.now).attached =
    c.in_ok-agenda.ensures ∙ c.deref.ensures.value ∙ c.in_ok-visible.ensures in
    let count : tally c.in_ok-agenda.agenda ≡ visible_count (wiring c.args.network.now) c.args.worldview.now =
    ap tally flags ∙ tally_visible (is_instance_visible c.args.worldview.now) (wiring c.args.network.now).attached in
    subst (λ n. IfOk c.settle_from.result (λ settled. n ≤ settled.calls)) count c.settle_from.ensures.least

pub returns-clause-settles : goal.returns-clause-settles
returns-clause-settles g c =
    settles_from (wiring c.args.network.now) c.args.store.now c.read_kept.new.store c.settle_from.new.store c.args.worldview.now c.settle_from.result
    c.in_ok-known.known.supports c.read_kept.ensures.unchanged (c.in_ok-known.ensures.upstream (wiring c.args.network.now)) c.settle_from.ensures.found
    c.settle_from.ensures.kept c.settle_from.ensures.grows c.settle_from.ensures.upstream c.settle_from.ensures.lie
