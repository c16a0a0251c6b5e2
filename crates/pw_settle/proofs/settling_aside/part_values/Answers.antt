use Rattle.std.proofs.Common.{◌≡◌, ◌<◌, ℕ, length, refl, sym, ◌∙◌, subst, arith}
use Rattle.pw_facts.specs.declared.fact.Fact.{Fact}
use Rattle.pw_cells.specs.Cells.{Store}
use Rattle.pw_cells.specs.Shown.{IsKeptIn}
use Rattle.pw_network.specs.Wiring.{wiring}
use Rattle.pw_settle.proofs.AsideStarts.{IsPutTo, all_found, kept_found, put_all, put_none, put_one, put_stays}
use Rattle.pw_settle.proofs.settling_aside.part_values.Goals.{then-not-is_within+in_ok-put_kept, else-not-is_within}
use Rattle.pw_settle.proofs.settling_aside.part_values.Goals as goal

pub loop-cell-init : goal.loop-cell-init
loop-cell-init g c = record {
  same = refl;
  put = put_none (wiring c.args.network.now) c.args.network.now.well c.args.store.now c.requires.start.sound.kinds c.args.worldview.now c.args.before.now c.requires.start.settled
      c.in_ok-known.known.infos.items c.in_ok-known.known.supports c.in_ok-known.ensures.infos c.in_ok-known.ensures.supports;
}

pub loop-cell-preserved : goal.loop-cell-preserved
loop-cell-preserved g c =
    let network = wiring c.args.network.now in
    let store : Store = c.args.store.now in
    let cell = c.loop-cell.cell in
    let there : cell < length store.cells = omega (arith, c.loop-cell-test.true, c.loop-cell.auto.cell-end, c.cells-cell-end.ensures) in
    elim c.if-not-is_within.branch [
      | then-not-is_within+in_ok-put_kept w ↦
          let put = w.in_ok-put_kept.ensures.put in
          let fact : Fact = put.fact in
          let kept : IsKeptIn store cell c.args.worldview.now fact =
          subst (λ (s : Store). IsKeptIn s cell c.args.worldview.now fact) c.loop-cell.invariant.same put.is in
          rw (w.store-is, w.known-is) (
          record {
            same = w.in_ok-put_kept.ensures.unchanged ∙ c.loop-cell.invariant.same;
            put = put_one network c.args.network.now.well store c.requires.start.sound.kinds c.args.worldview.now c.args.before.now c.requires.start.settled cell there
                c.loop-cell.known.infos.items c.loop-cell.known.supports c.loop-cell.invariant.put fact.info fact.support w.put_kept.new.known.infos.items w.put_kept.new.known.supports
                put.infos_are put.supports_are
                (kept_found network store c.requires.start.sound.kinds c.args.worldview.now cell fact.info fact.support kept.info kept.within kept.larger
                kept.told);
          })
      | else-not-is_within w ↦ rw (w.store-is, w.known-is) (
          record {
            same = c.loop-cell.invariant.same;
            put = put_stays network c.args.network.now.well store c.requires.start.sound.kinds c.args.worldview.now c.args.before.now c.requires.start.settled cell there
                c.loop-cell.known.infos.items c.loop-cell.known.supports c.loop-cell.invariant.put (sym c.is_within.ensures ∙ w.if-not-is_within.false) c.requires.part;
          })
    ]

pub returns-clause-found : goal.returns-clause-found
returns-clause-found g c =
    let network = wiring c.args.network.now in
    let last : c.loop-cell.cell ≡ length c.args.store.now.cells =
    omega (arith, c.loop-cell-test.false, c.loop-cell.auto.cell-end, c.cells-cell-end.ensures) in
    all_found network c.args.store.now c.requires.start.sound.kinds c.args.worldview.now c.loop-cell.known.infos.items c.loop-cell.known.supports
    (put_all network c.args.network.now.well c.args.store.now c.requires.start.sound.kinds c.args.worldview.now c.args.before.now c.requires.start.settled
    c.loop-cell.known.infos.items c.loop-cell.known.supports
    (subst (λ (n : ℕ). IsPutTo network c.args.store.now c.args.worldview.now c.args.before.now n c.loop-cell.known.infos.items c.loop-cell.known.supports) last
    c.loop-cell.invariant.put))
