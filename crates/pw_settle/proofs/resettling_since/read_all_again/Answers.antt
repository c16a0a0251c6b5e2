use Rattle.std.proofs.Common.{◌<◌, ℕ, List, length, map, refl, sym, ◌∙◌, subst, arith}
use Rattle.pw_info.specs.declared.info.Info.{Info}
use Rattle.pw_premises.specs.Premises.{Premises}
use Rattle.pw_cells.specs.Cells.{Store, IsUnsaid, kept_in}
use Rattle.pw_cells.proofs.Stores.{OnErr_always}
use Rattle.pw_network.specs.Wiring.{wiring}
use Rattle.pw_settle.specs.Growth.{RestOnUpstreamAfter}
use Rattle.pw_settle.specs.Calls.{is_instance_visible}
use Rattle.pw_settle.specs.Settled.{info_at}
use Rattle.pw_settle.specs.inside.Known.{IsAtHandFor}
use Rattle.pw_settle.specs.inside.Since.{IsAtHand, IsReadAgain}
use Rattle.pw_settle.proofs.QueuedNews.{none_at_first}
use Rattle.pw_settle.proofs.ReadAgain.{again_at_hand, again_flags, again_for, again_kept, again_more, again_none, again_queues, unsaid_first}
use Rattle.pw_settle.proofs.resettling_since.read_all_again.Goals as goal

pub loop-cell-init : goal.loop-cell-init
loop-cell-init g c = record {
  same = refl;
  again = again_none c.args.store.now c.args.worldview.now c.args.mark c.args.known.now.infos.items c.args.known.now.supports c.requires.known;
  flags = refl;
  queued = none_at_first (wiring c.args.network.now) (map (is_instance_visible c.args.worldview.now) (wiring c.args.network.now).attached)
      c.args.known.now.infos.items c.args.agenda.now;
}

pub read_again-requires-clause-hand : goal.read_again-requires-clause-hand
read_again-requires-clause-hand g c =
    subst (λ (s : Store). IsAtHandFor s c.loop-cell.cell c.loop-cell.known.infos.items c.loop-cell.known.supports)
    (sym {A = Store} c.loop-cell.invariant.same)
    (again_for c.args.store.now c.args.worldview.now c.args.mark c.args.known.now.infos.items c.args.known.now.supports c.requires.known
    _ c.loop-cell.known.infos.items c.loop-cell.known.supports c.loop-cell.invariant.again c.loop-cell.cell
    (omega (arith, c.loop-cell-test.true, c.cells-cell-end.ensures)))

pub returns-in_err-read_again-clause-upstream : goal.returns-in_err-read_again-clause-upstream
returns-in_err-read_again-clause-upstream g c network =
    subst (RestOnUpstreamAfter network c.args.known.now.supports c.args.store.now)
    (sym {A = List Premises} c.in_err-read_again.ensures.refused.stays.supports_are) (c.loop-cell.invariant.again.upstream network)

pub returns-in_err-read_again-clause-refused : goal.returns-in_err-read_again-clause-refused
returns-in_err-read_again-clause-refused g c =
    let store : Store = c.args.store.now in
    let w : Premises = c.args.worldview.now in
    let first : List Info = c.args.known.now.infos.items in
    let supports : List Premises = c.args.known.now.supports in
    let now : List Info = c.loop-cell.known.infos.items in
    let now_supports : List Premises = c.loop-cell.known.supports in
    let cell : ℕ = c.loop-cell.cell in
    let below : cell < length store.cells = omega (arith, c.loop-cell-test.true, c.cells-cell-end.ensures) in
    let unsaid : IsUnsaid (info_at now cell) (kept_in store cell w) =
    subst (λ (s : Store). IsUnsaid (info_at now cell) (kept_in s cell w)) c.loop-cell.invariant.same c.in_err-read_again.ensures.refused.unsaid in
    OnErr_always c.from_residual.result (
      subst (λ (l : List Info). IsAtHand store w c.args.mark l c.read_again.new.known.supports) (sym {A = List Info} c.in_err-read_again.ensures.refused.stays.infos_are)
          (subst (IsAtHand store w c.args.mark now) (sym {A = List Premises} c.in_err-read_again.ensures.refused.stays.supports_are)
          (again_at_hand store w c.args.mark first supports c.requires.known cell now now_supports c.loop-cell.invariant.again)),
      (
        cell,
        omega (arith, below, c.requires.known.many),
        unsaid_first store w c.args.mark first supports c.requires.known cell now now_supports c.loop-cell.invariant.again cell below (kept_in store cell w) unsaid,
      ),
    )

pub loop-cell-preserved : goal.loop-cell-preserved
loop-cell-preserved g c =
    let network = wiring c.args.network.now in
    let store : Store = c.args.store.now in
    let w : Premises = c.args.worldview.now in
    let first : List Info = c.args.known.now.infos.items in
    let supports : List Premises = c.args.known.now.supports in
    let now : List Info = c.loop-cell.known.infos.items in
    let now_supports : List Premises = c.loop-cell.known.supports in
    let new : List Info = c.read_again.new.known.infos.items in
    let new_supports : List Premises = c.read_again.new.known.supports in
    let cell : ℕ = c.loop-cell.cell in
    let below : cell < length store.cells = omega (arith, c.loop-cell-test.true, c.cells-cell-end.ensures) in
    let so_far = c.loop-cell.invariant.again in
    let read : IsReadAgain network store cell w now new now_supports new_supports c.loop-cell.agenda c.read_again.new.agenda =
    subst (λ (s : Store). IsReadAgain network s cell w now new now_supports new_supports c.loop-cell.agenda c.read_again.new.agenda)
    c.loop-cell.invariant.same c.in_ok-read_again.ensures.read in
    record {
      same = c.read_again.ensures.unchanged ∙ c.loop-cell.invariant.same;
      again = again_more store w first supports c.requires.known.many cell below now now_supports so_far network c.loop-cell.agenda c.read_again.new.agenda
          new new_supports read;
      flags = again_flags store w first supports c.requires.known.many cell below now now_supports so_far network c.loop-cell.agenda c.read_again.new.agenda
          new new_supports read ∙ c.loop-cell.invariant.flags;
      queued = again_queues store w first supports c.requires.known.many cell below now now_supports so_far network c.args.agenda.now c.loop-cell.agenda
          c.read_again.new.agenda new new_supports read c.loop-cell.invariant.queued;
    }

pub returns-clause-taken : goal.returns-clause-taken
returns-clause-taken g c = record {
  kept = again_kept c.args.store.now c.args.worldview.now c.args.mark c.args.known.now.infos.items c.args.known.now.supports c.requires.known c.loop-cell.cell
      c.loop-cell.known.infos.items c.loop-cell.known.supports c.loop-cell.invariant.again
      (omega (arith, c.loop-cell-test.false, c.cells-cell-end.ensures));
  queues = c.loop-cell.invariant.queued;
}
