use Rattle.std.proofs.Common.{◌≡◌, ◌+◌, ℕ, length, refl, sym, ◌∙◌, subst, arith}
use Rattle.pw_cells.specs.Cells.{Store}
use Rattle.pw_network.specs.Wiring.{wiring}
use Rattle.pw_settle.specs.inside.Aside.{AreGrownTo}
use Rattle.pw_settle.proofs.growing_aside.grow_cells.Goals as goal

pub loop-cell-init : goal.loop-cell-init
loop-cell-init g c = record { same = refl; grown = c.requires.grown }

pub grow_cell-requires-clause-grown : goal.grow_cell-requires-clause-grown
grow_cell-requires-clause-grown g c =
    subst (λ (s : Store). AreGrownTo (wiring c.args.network.now) s c.args.earlier.now c.args.worldview.now c.loop-cell.cell c.loop-cell.known.infos.items
    c.loop-cell.known.supports c.loop-cell.agenda) (sym {A = Store} c.loop-cell.invariant.same) c.loop-cell.invariant.grown

pub loop-cell-preserved : goal.loop-cell-preserved
loop-cell-preserved g c = record {
  same = c.grow_cell.ensures.unchanged ∙ c.loop-cell.invariant.same;
  grown = subst (λ (s : Store). AreGrownTo (wiring c.args.network.now) s c.args.earlier.now c.args.worldview.now (c.loop-cell.cell + 1)
      c.grow_cell.new.known.infos.items c.grow_cell.new.known.supports c.grow_cell.new.agenda)
      c.loop-cell.invariant.same c.in_ok-grow_cell.ensures.grown;
}

pub returns-clause-grown : goal.returns-clause-grown
returns-clause-grown g c =
    let last : c.loop-cell.cell ≡ length c.args.store.now.cells =
    omega (arith, c.loop-cell-test.false, c.loop-cell.auto.cell-end, c.cells-cell-end.ensures) in
    subst (λ (n : ℕ). AreGrownTo (wiring c.args.network.now) c.args.store.now c.args.earlier.now c.args.worldview.now n c.loop-cell.known.infos.items
    c.loop-cell.known.supports c.loop-cell.agenda) last c.loop-cell.invariant.grown
