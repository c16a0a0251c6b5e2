use Rattle.std.proofs.Common.{◌≡◌, ◌+◌, ◌≤◌, ℕ, Bool, List, length, map, take, refl, sym, ap, ◌∙◌, subst, arith}
use Rattle.std.proofs.lemmas.List.{length-map}
use Rattle.pw_info.specs.declared.info.Info.{Info}
use Rattle.pw_premises.specs.Premises.{Premises}
use Rattle.pw_premises.specs.PremiseSubsets.{is_subset_refl}
use Rattle.pw_cells.specs.Cells.{Store, kinds_of}
use Rattle.pw_cells.proofs.Stores.{OnErr_always}
use Rattle.pw_network.specs.Network.{cells_in}
use Rattle.pw_network.specs.Wiring.{wiring}
use Rattle.pw_network.specs.inside.Held.{attachment}
use Rattle.pw_settle.specs.Calls.{gains, is_instance_visible, tally}
use Rattle.pw_settle.specs.Growth.{CanContinue, HasValues, IsFitting, IsInterrupted, KeepsIfSound, KeepsMore, RestOnUpstreamAfter}
use Rattle.pw_settle.specs.Settled.{Settled}
use Rattle.pw_settle.specs.Sound.{LieUpstream, RestsUpstream}
use Rattle.pw_settle.specs.Due.{AreDue}
use Rattle.pw_settle.specs.inside.Known.{AreKept, AreUpstream, SaysTold, WereKept}
use Rattle.pw_settle.specs.inside.Progress.{AreMet, CallsNoMore}
use Rattle.pw_settle.specs.inside.Since.{IsAtHand, IsBehind, QueuesChanged}
use Rattle.pw_settle.proofs.FittingValues.{satisfied_but_due}
use Rattle.pw_settle.proofs.Growing.{keeps_more_same}
use Rattle.pw_settle.proofs.InPlace.{due_since, read_at_hand, read_upstream, told_at_hand}
use Rattle.pw_settle.proofs.RefusedSettlings.{as_many_cells, known_since, refused_calls, refused_news, values_found}
use Rattle.pw_settle.proofs.SettledStores.{calls_by_gains, kept_settled}
use Rattle.pw_settle.proofs.StoreCells.{cells_kept}
use Rattle.pw_settle.proofs.resettling_since.resettle_since.Given as given
use Rattle.pw_settle.proofs.resettling_since.resettle_since.Goals as goal
use Rattle.pw_settle.proofs.resettling_since.resettle_since.Goals.{After-work-arg-3-1, In_ok-read_new_cells}

-- the values before
abbrev before : (g : given.Over) (c : In_ok-read_new_cells g) → Settled
before g c = record {
  infos = c.values.inside.known.infos.items;
  supports = c.values.inside.known.supports;
  worldview = c.values.inside.worldview;
  instances = c.values.inside.instances;
  calls = c.values.inside.calls;
  mark = c.values.inside.mark;
}

fits : (g : given.Over) (c : In_ok-read_new_cells g) → IsFitting (wiring c.args.network.now) c.args.store.now (before g c)
fits g c = subst (IsFitting (wiring c.args.network.now) c.args.store.now) (sym c.values.view_is) c.requires.fits

continues : (g : given.Over) (c : In_ok-read_new_cells g) → CanContinue c.args.store.now (before g c)
continues g c = subst (CanContinue c.args.store.now) (sym c.values.view_is) c.requires.continues

-- what is known is at hand once the cells that came since are read
hand : (g : given.Over) (c : In_ok-read_new_cells g) →
    IsAtHand c.args.store.now c.values.inside.worldview c.values.inside.mark c.read_new_cells.new.known.infos.items c.read_new_cells.new.known.supports
hand g c =
    read_at_hand (wiring c.args.network.now) c.args.store.now c.requires.kinds (before g c) (fits g c) (continues g c)
    c.read_new_cells.new.known.infos.items c.read_new_cells.new.known.supports c.in_ok-read_new_cells.ensures.read

pub take_in_news-requires-clause-known : goal.take_in_news-requires-clause-known
take_in_news-requires-clause-known g c =
    subst (λ (s : Store). IsAtHand s c.values.inside.worldview c.values.inside.mark c.read_new_cells.new.known.infos.items c.read_new_cells.new.known.supports)
    (sym {A = Store} c.read_new_cells.ensures.unchanged) (hand g (goal.at.take_in_news-requires-clause-known g c).In_ok-read_new_cells)

-- ---- premises

-- those of what is known lie upstream, if those of the earlier values did
known_lie : (g : given.Over) (c : In_ok-read_new_cells g) (supports : List Premises) →
    RestOnUpstreamAfter (wiring c.args.network.now) c.read_new_cells.new.known.supports c.read_new_cells.new.store supports →
    RestOnUpstreamAfter (wiring c.args.network.now) c.args.values.now.supports c.args.store.now supports
known_lie g c supports after given rests lie =
    after given (subst (RestsUpstream (wiring c.args.network.now) given) (sym {A = Store} c.read_new_cells.ensures.unchanged) rests)
    (read_upstream (wiring c.args.network.now) c.args.store.now c.requires.kinds (before g c) (fits g c) (continues g c)
    c.read_new_cells.new.known.infos.items c.read_new_cells.new.known.supports c.in_ok-read_new_cells.ensures.read given rests
    (subst (λ (s : Settled). LieUpstream (wiring c.args.network.now) given s.supports) (sym c.values.view_is) lie))

pub returns-in_err-read_new_cells-clause-lie : goal.returns-in_err-read_new_cells-clause-lie
returns-in_err-read_new_cells-clause-lie g c given rests lie =
    subst (LieUpstream (wiring c.args.network.now) given)
    (sym (c.in_err-read_new_cells.ensures.supports ∙ ap (λ (s : Settled). s.supports) c.values.view_is)) lie

pub returns-in_err-take_in_news-clause-lie : goal.returns-in_err-take_in_news-clause-lie
returns-in_err-take_in_news-clause-lie g c =
    known_lie g (goal.at.returns-in_err-take_in_news-clause-lie g c).In_ok-read_new_cells c.take_in_news.new.known.supports
    (c.take_in_news.ensures.upstream (wiring c.args.network.now))

-- the store is unchanged until instances are called
store_then : (g : given.Over) (c : After-work-arg-3-1 g) → c.take_in_news.new.store ≡ c.args.store.now
store_then g c = c.take_in_news.ensures.unchanged ∙ c.read_new_cells.ensures.unchanged

upstream_then : (g : given.Over) (c : After-work-arg-3-1 g) (given : ℕ → ℕ → Bool) → RestsUpstream (wiring c.args.network.now) given c.args.store.now →
    LieUpstream (wiring c.args.network.now) given c.args.values.now.supports →
    AreUpstream (wiring c.args.network.now) given c.take_in_news.new.store c.take_in_news.new.known.supports
upstream_then g c given rests lie = record {
  kept = subst (RestsUpstream (wiring c.args.network.now) given) (sym {A = Store} (store_then g c)) rests;
  known = known_lie g (goal.at.work-requires-clause-underway g c).In_ok-read_new_cells c.take_in_news.new.known.supports
      (c.take_in_news.ensures.upstream (wiring c.args.network.now)) given rests lie;
}

pub returns-in_err-values-inside-clause-upstream : goal.returns-in_err-values-inside-clause-upstream
returns-in_err-values-inside-clause-upstream g c given rests lie =
    (c.work.ensures.further.upstream given
    (upstream_then g (goal.at.returns-in_err-values-inside-clause-upstream g c).After-work-arg-3-1 given rests lie)).kept

pub returns-in_err-values-inside-clause-lie : goal.returns-in_err-values-inside-clause-lie
returns-in_err-values-inside-clause-lie g c given rests lie =
    (c.work.ensures.further.upstream given
    (upstream_then g (goal.at.returns-in_err-values-inside-clause-lie g c).After-work-arg-3-1 given rests lie)).known

pub returns-clause-upstream : goal.returns-clause-upstream
returns-clause-upstream g c given rests lie =
    subst (RestsUpstream (wiring c.args.network.now) given) (sym {A = Store} c.mark-values-inside.ensures.unchanged)
    (c.work.ensures.further.upstream given (upstream_then g (goal.at.returns-clause-upstream g c).After-work-arg-3-1 given rests lie)).kept

pub returns-clause-lie : goal.returns-clause-lie
returns-clause-lie g c given rests lie =
    (c.work.ensures.further.upstream given (upstream_then g (goal.at.returns-clause-lie g c).After-work-arg-3-1 given rests lie)).known

-- ---- what waits

-- the instances wait that are due
due_then : (g : given.Over) (c : After-work-arg-3-1 g) →
    AreDue (wiring c.args.network.now) c.args.store.now c.values.inside.worldview (before g (goal.at.work-requires-clause-underway g c).In_ok-read_new_cells)
    c.take_in_news.new.agenda
due_then g c =
    let network = wiring c.args.network.now in
    let read : List Info = c.read_new_cells.new.known.infos.items in
    let w : Premises = c.values.inside.worldview in
    let first : List Bool = c.queue_new_instances.new.agenda in
    let next : List Bool = c.queue_new_cells.new.agenda in
    let d = (goal.at.work-requires-clause-underway g c).In_ok-read_new_cells in
    due_since network c.args.store.now c.requires.kinds (before g d) (fits g d) (continues g d)
    read c.read_new_cells.new.known.supports c.in_ok-read_new_cells.ensures.read
    c.take_in_news.new.known.infos.items c.take_in_news.new.known.supports
    (subst (λ (s : Store). AreKept s w c.take_in_news.new.known.infos.items c.take_in_news.new.known.supports)
    c.read_new_cells.ensures.unchanged c.in_ok-take_in_news.ensures.taken.kept)
    c.args.network.now.well first next c.take_in_news.new.agenda c.queue_new_instances.ensures.flags c.queue_new_instances.ensures.new
    (subst (λ (n : ℕ). QueuesChanged network (map (is_instance_visible w) network.attached) (take n read) read first next)
    (omega (arith, c.len-first.ensures, c.values.inside.known.infos.ok))
    (subst (λ (l : List Info). QueuesChanged network (map (is_instance_visible w) network.attached) (take c.len-first.result l) l first next)
    c.deref.ensures.value c.queue_new_cells.ensures)) c.in_ok-take_in_news.ensures.taken.queues

pub work-requires-clause-underway : goal.work-requires-clause-underway
work-requires-clause-underway g c =
    let d = (goal.at.work-requires-clause-underway g c).In_ok-read_new_cells in
    let network = wiring c.args.network.now in
    let w : Premises = c.values.inside.worldview in
    record {
      kinds = ap kinds_of (store_then g c) ∙ c.requires.kinds;
      kept = subst (λ (s : Store). AreKept s w c.take_in_news.new.known.infos.items c.take_in_news.new.known.supports)
          (sym {A = Store} c.take_in_news.ensures.unchanged) c.in_ok-take_in_news.ensures.taken.kept;
      flags = c.in_ok-take_in_news.ensures.taken.queues.flags ∙ c.queue_new_cells.ensures.flags ∙ c.queue_new_instances.ensures.flags;
      seen = λ n flag. (((due_then g c).are n).0 flag).0;
      satisfied = subst (λ (s : Store). AreMet network s w c.take_in_news.new.agenda) (sym {A = Store} (store_then g c))
          (satisfied_but_due network c.args.network.now.well c.args.store.now w c.requires.kinds (before g d)
          (fits g d) (is_subset_refl w) c.take_in_news.new.agenda (due_then g c));
    }

-- ---- after a refusal

pub returns-in_err-take_in_news-clause-refused : goal.returns-in_err-take_in_news-clause-refused
returns-in_err-take_in_news-clause-refused g c =
    let d = (goal.at.returns-in_err-take_in_news-clause-refused g c).In_ok-read_new_cells in
    let now : Settled = known_since (before g d) c.take_in_news.new.known.infos.items c.take_in_news.new.known.supports in
    OnErr_always c.from_residual-in_err-take_in_news.result
    (subst (λ (s : Store). IsInterrupted (wiring c.args.network.now) c.args.store.now s c.args.values.now now)
    (sym {A = Store} (c.take_in_news.ensures.unchanged ∙ c.read_new_cells.ensures.unchanged))
    (subst (λ (s : Settled). IsInterrupted (wiring c.args.network.now) c.args.store.now c.args.store.now s now) c.values.view_is
    (refused_news (wiring c.args.network.now) c.args.network.now.well c.args.store.now c.requires.kinds (before g d) (continues g d)
    c.read_new_cells.new.known.infos.items c.take_in_news.new.known.infos.items c.read_new_cells.new.known.supports c.take_in_news.new.known.supports
    c.in_ok-read_new_cells.ensures.read
    (subst (λ (s : Store). IsAtHand s c.values.inside.worldview c.values.inside.mark c.take_in_news.new.known.infos.items c.take_in_news.new.known.supports)
    c.read_new_cells.ensures.unchanged c.in_err-take_in_news.ensures.refused.0)
    (subst (λ (s : Store). IsBehind s c.values.inside.worldview c.read_new_cells.new.known.infos.items)
    c.read_new_cells.ensures.unchanged c.in_err-take_in_news.ensures.refused.1))))

pub returns-in_err-values-inside-clause-refused : goal.returns-in_err-values-inside-clause-refused
returns-in_err-values-inside-clause-refused g c =
    let d = (goal.at.returns-in_err-values-inside-clause-refused g c).In_ok-read_new_cells in
    let e = (goal.at.returns-in_err-values-inside-clause-refused g c).After-work-arg-3-1 in
    let now : Settled = known_since (before g d) c.work.new.known.infos.items c.work.new.known.supports in
    OnErr_always c.from_residual-in_err-values-inside.result
    (subst (λ (s : Settled). IsInterrupted (wiring c.args.network.now) c.args.store.now c.work.new.store s now) c.values.view_is
    (refused_calls (wiring c.args.network.now) c.args.network.now.well c.args.store.now c.requires.kinds (before g d) (continues g d) c.work.new.store
    c.read_new_cells.new.known.infos.items c.work.new.known.infos.items c.read_new_cells.new.known.supports c.work.new.known.supports (hand g d)
    (subst (λ (s : Store). WereKept (wiring c.args.network.now) s c.work.new.store c.values.inside.worldview c.work.new.known.infos.items
    c.work.new.known.supports) (store_then g e) c.in_err-values-inside.ensures.further.between)
    c.take_in_news.new.agenda (due_then g e) c.in_err-values-inside.ensures.waited))

-- ---- the values

grows_then : (g : given.Over) (c : After-work-arg-3-1 g) (new : Store) → KeepsMore (wiring c.args.network.now) c.take_in_news.new.store new →
    KeepsMore (wiring c.args.network.now) c.args.store.now new
grows_then g c new grows = subst (λ (s : Store). KeepsMore (wiring c.args.network.now) s new) (store_then g c) grows

told_then : (g : given.Over) (c : In_ok-read_new_cells g) → SaysTold c.args.store.now c.values.inside.worldview
told_then g c =
    told_at_hand c.args.store.now c.values.inside.worldview c.values.inside.mark c.read_new_cells.new.known.infos.items c.read_new_cells.new.known.supports
    (hand g c)

pub work-requires-clause-told : goal.work-requires-clause-told
work-requires-clause-told g c =
    subst (λ (s : Store). SaysTold s c.values.inside.worldview) (sym {A = Store} (store_then g c))
    (told_then g (goal.at.work-requires-clause-told g c).In_ok-read_new_cells)

pub returns-clause-found : goal.returns-clause-found
returns-clause-found g c =
    let network = wiring c.args.network.now in
    let e = (goal.at.returns-clause-found g c).After-work-arg-3-1 in
    let d = (goal.at.returns-clause-found g c).In_ok-read_new_cells in
    let w : Premises = c.values.inside.worldview in
    let many : ℕ = length c.instances-2.result.now in
    let values : Settled = record {
      infos = c.work.new.known.infos.items;
      supports = c.work.new.known.supports;
      worldview = w;
      instances = many;
      calls = c.in_ok-values-inside.field-0;
      mark = c.mark-values-inside.result;
    } in
    subst (λ (s : Settled). HasValues network c.args.store.now c.mark-values-inside.new.self s.worldview values) c.values.view_is
    (subst (λ (s : Store). HasValues network c.args.store.now s w values) (sym {A = Store} c.mark-values-inside.ensures.unchanged)
    (values_found network c.args.network.now.well c.args.store.now c.work.new.store w c.requires.kinds (grows_then g e c.work.new.store c.work.ensures.further.grows) (told_then g d)
    c.work.new.agenda c.in_ok-values-inside.ensures.further.underway.satisfied c.in_ok-values-inside.ensures.done
    c.work.new.known.infos.items c.work.new.known.supports c.in_ok-values-inside.ensures.further.underway.kept many c.in_ok-values-inside.field-0 c.mark-values-inside.result
    (sym (length-map c.instances-2.result.now attachment) ∙ ap length c.instances-2.ensures.instances) c.mark-values-inside.ensures.mark))

pub returns-clause-kept : goal.returns-clause-kept
returns-clause-kept g c =
    let network = wiring c.args.network.now in
    let e = (goal.at.returns-clause-kept g c).After-work-arg-3-1 in
    let d = (goal.at.returns-clause-kept g c).In_ok-read_new_cells in
    subst (λ (s : Settled). KeepsIfSound network c.args.store.now c.mark-values-inside.new.self s.worldview) c.values.view_is
    (subst (λ (s : Store). KeepsIfSound network c.args.store.now s c.values.inside.worldview) (sym {A = Store} c.mark-values-inside.ensures.unchanged)
    (λ sound. kept_settled network c.args.network.now.well c.args.store.now c.work.new.store c.values.inside.worldview c.requires.kinds
    (grows_then g e c.work.new.store c.work.ensures.further.grows) (told_then g d) c.work.new.agenda c.in_ok-values-inside.ensures.further.underway.satisfied c.in_ok-values-inside.ensures.done sound))

-- ---- the calls

pub returns-clause-due : goal.returns-clause-due
returns-clause-due g c within =
    let network = wiring c.args.network.now in
    let old : Store = c.args.store.now in
    let e = (goal.at.returns-clause-due g c).After-work-arg-3-1 in
    let d = (goal.at.returns-clause-due g c).In_ok-read_new_cells in
    let queued : List Bool = c.take_in_news.new.agenda in
    let calls : ℕ = c.in_ok-values-inside.field-0 in (
      queued,
      subst (λ (s : Settled). AreDue network old s.worldview s queued) c.values.view_is (due_then g e),
      c.in_ok-values-inside.ensures.least,
      subst (λ (s : Settled). calls ≤ tally queued + gains network old c.mark-values-inside.new.self s.worldview) c.values.view_is
          (subst (λ (s : Store). calls ≤ tally queued + gains network old s c.values.inside.worldview) (sym {A = Store} c.mark-values-inside.ensures.unchanged)
          (calls_by_gains network old c.work.new.store c.values.inside.worldview calls (tally queued) (as_many_cells old c.work.new.store (grows_then g e c.work.new.store c.work.ensures.further.grows).kinds)
          (subst (λ (s : Store). CallsNoMore network c.values.inside.worldview s queued c.work.new.store calls) (store_then g e)
          c.in_ok-values-inside.ensures.most))),
    )

-- ---- what the steps ask

pub read_new_cells-requires-clause-cells : goal.read_new_cells-requires-clause-cells
read_new_cells-requires-clause-cells g c =
    omega (
      arith,
      subst (λ (s : Settled). length s.infos ≤ cells_in (wiring c.args.network.now)) (sym c.values.view_is) c.requires.fits.cells,
      cells_kept (wiring c.args.network.now) c.args.store.now c.args.network.now.well c.requires.kinds,
    )

pub read_new_cells-requires-clause-as_many : goal.read_new_cells-requires-clause-as_many
read_new_cells-requires-clause-as_many g c =
    subst (λ (s : Settled). length s.supports ≡ length s.infos) (sym c.values.view_is) c.requires.continues.as_many

pub queue_new_cells-requires-clause-cells : goal.queue_new_cells-requires-clause-cells
queue_new_cells-requires-clause-cells g c =
    ap length c.deref.ensures.value ∙ c.in_ok-read_new_cells.ensures.read.many
    ∙ cells_kept (wiring c.args.network.now) c.args.store.now c.args.network.now.well c.requires.kinds

pub queue_new_instances-requires-clause-flags : goal.queue_new_instances-requires-clause-flags
queue_new_instances-requires-clause-flags g c =
    c.in_ok-fit.ensures.many ∙ sym (length-map c.instances.result.now attachment) ∙ ap length c.instances.ensures.instances

pub queue_new_instances-requires-clause-idle : goal.queue_new_instances-requires-clause-idle
queue_new_instances-requires-clause-idle g c = c.in_ok-fit.ensures.idle

pub queue_new_cells-requires-clause-flags : goal.queue_new_cells-requires-clause-flags
queue_new_cells-requires-clause-flags g c = c.queue_new_instances.ensures.flags

pub take_in_news-requires-clause-kinds : goal.take_in_news-requires-clause-kinds
take_in_news-requires-clause-kinds g c = ap kinds_of c.read_new_cells.ensures.unchanged ∙ c.requires.kinds

pub take_in_news-requires-clause-flags : goal.take_in_news-requires-clause-flags
take_in_news-requires-clause-flags g c = c.queue_new_cells.ensures.flags ∙ c.queue_new_instances.ensures.flags

-- ---- the store keeps no less

pub returns-in_err-fit-clause-grows : goal.returns-in_err-fit-clause-grows
returns-in_err-fit-clause-grows g c = keeps_more_same (wiring c.args.network.now) c.args.store.now

pub returns-in_err-read_new_cells-clause-grows : goal.returns-in_err-read_new_cells-clause-grows
returns-in_err-read_new_cells-clause-grows g c =
    subst (KeepsMore (wiring c.args.network.now) c.args.store.now) (sym {A = Store} c.read_new_cells.ensures.unchanged)
    (keeps_more_same (wiring c.args.network.now) c.args.store.now)

pub returns-in_err-take_in_news-clause-grows : goal.returns-in_err-take_in_news-clause-grows
returns-in_err-take_in_news-clause-grows g c =
    subst (KeepsMore (wiring c.args.network.now) c.args.store.now)
    (sym {A = Store} (c.take_in_news.ensures.unchanged ∙ c.read_new_cells.ensures.unchanged))
    (keeps_more_same (wiring c.args.network.now) c.args.store.now)

pub returns-in_err-values-inside-clause-grows : goal.returns-in_err-values-inside-clause-grows
returns-in_err-values-inside-clause-grows g c =
    grows_then g (goal.at.returns-in_err-values-inside-clause-grows g c).After-work-arg-3-1 c.work.new.store c.work.ensures.further.grows

pub returns-clause-grows : goal.returns-clause-grows
returns-clause-grows g c =
    subst (KeepsMore (wiring c.args.network.now) c.args.store.now) (sym {A = Store} c.mark-values-inside.ensures.unchanged)
    (grows_then g (goal.at.returns-clause-grows g c).After-work-arg-3-1 c.work.new.store c.work.ensures.further.grows)

pub returns-in_err-read_new_cells-clause-upstream : goal.returns-in_err-read_new_cells-clause-upstream
returns-in_err-read_new_cells-clause-upstream g c given rests lie =
    subst (RestsUpstream (wiring c.args.network.now) given) (sym {A = Store} c.read_new_cells.ensures.unchanged) rests

pub returns-in_err-take_in_news-clause-upstream : goal.returns-in_err-take_in_news-clause-upstream
returns-in_err-take_in_news-clause-upstream g c given rests lie =
    subst (RestsUpstream (wiring c.args.network.now) given)
    (sym {A = Store} (c.take_in_news.ensures.unchanged ∙ c.read_new_cells.ensures.unchanged)) rests

-- ---- nothing changed

pub returns-in_err-fit-clause-refused : goal.returns-in_err-fit-clause-refused
returns-in_err-fit-clause-refused g c =
    OnErr_always c.from_residual.result (record {
      worldview = refl;
      cells = omega arith;
      fits = c.requires.fits;
      continues = c.requires.continues;
      unchanged = λ up_to_date. refl;
    })

pub returns-in_err-read_new_cells-clause-refused : goal.returns-in_err-read_new_cells-clause-refused
returns-in_err-read_new_cells-clause-refused g c =
    let now : List Info → List Premises → Settled =
    λ infos supports. record {
      infos = infos;
      supports = supports;
      worldview = c.values.inside.worldview;
      instances = c.values.inside.instances;
      calls = c.values.inside.calls;
      mark = c.values.inside.mark;
    } in
    let same : now c.read_new_cells.new.known.infos.items c.read_new_cells.new.known.supports ≡ c.args.values.now =
    ap (λ (l : List Info). now l c.read_new_cells.new.known.supports) c.in_err-read_new_cells.ensures.infos
    ∙ ap (now c.values.inside.known.infos.items) c.in_err-read_new_cells.ensures.supports ∙ c.values.view_is in
    OnErr_always c.from_residual-in_err-read_new_cells.result
    (subst (λ (s : Store). IsInterrupted (wiring c.args.network.now) c.args.store.now s c.args.values.now
    (now c.read_new_cells.new.known.infos.items c.read_new_cells.new.known.supports)) (sym {A = Store} c.read_new_cells.ensures.unchanged)
    (subst (IsInterrupted (wiring c.args.network.now) c.args.store.now c.args.store.now c.args.values.now) (sym same)
    (record {
      worldview = refl;
      cells = omega arith;
      fits = c.requires.fits;
      continues = c.requires.continues;
      unchanged = λ up_to_date. refl;
    })))
