use Rattle.std.proofs.Common.{◌≡◌, ℕ, length, refl, ◌∙◌, subst, arith}
use Rattle.pw_facts.specs.declared.fact.Fact.{Fact}
use Rattle.pw_cells.specs.Cells.{Store}
use Rattle.pw_network.specs.Wiring.{wiring}
use Rattle.pw_settle.specs.inside.Aside.{IsFound}
use Rattle.pw_settle.proofs.AsideStarts.{IsFoundTo, all_found, found_more, found_none}
use Rattle.pw_settle.proofs.settling_aside.other_values.Goals as goal

pub loop-cell-init : goal.loop-cell-init
loop-cell-init g c = record {
  same = refl;
  found = found_none (wiring c.args.network.now) c.args.store.now c.args.worldview.now c.in_ok-infos.infos.items c.in_ok-supports.supports c.in_ok-infos.ensures.items
      c.in_ok-supports.ensures;
}

pub loop-cell-preserved : goal.loop-cell-preserved
loop-cell-preserved g c =
    let same = c.loop-cell.invariant.same in
    let more = c.in_ok-push_start.ensures.found in
    let fact : Fact = more.fact in
    let one : IsFound (wiring c.args.network.now) c.args.store.now c.args.worldview.now c.loop-cell.cell fact.info fact.support =
    subst (λ (s : Store). IsFound (wiring c.args.network.now) s c.args.worldview.now c.loop-cell.cell fact.info fact.support) same more.is in
    record {
      same = c.push_start.ensures.unchanged ∙ same;
      found = rw (more.infos_are, more.supports_are)
          (found_more (wiring c.args.network.now) c.args.store.now c.args.worldview.now c.loop-cell.cell c.loop-cell.infos.items c.loop-cell.supports fact.info fact.support
          c.loop-cell.invariant.found one);
    }

pub returns-clause-found : goal.returns-clause-found
returns-clause-found g c =
    let last : c.loop-cell.cell ≡ length c.args.store.now.cells =
    omega (arith, c.loop-cell-test.false, c.loop-cell.auto.cell-end, c.cells-cell-end.ensures) in
    all_found (wiring c.args.network.now) c.args.store.now c.requires.start.sound.kinds c.args.worldview.now c.loop-cell.infos.items c.loop-cell.supports
    (subst (λ (n : ℕ). IsFoundTo (wiring c.args.network.now) c.args.store.now c.args.worldview.now n c.loop-cell.infos.items c.loop-cell.supports) last
    c.loop-cell.invariant.found)
