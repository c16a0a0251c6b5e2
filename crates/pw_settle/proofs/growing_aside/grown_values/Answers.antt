use Rattle.std.proofs.Common.{length, subst}
use Rattle.pw_premises.specs.Premises.{Premises}
use Rattle.pw_network.specs.Wiring.{wiring}
use Rattle.pw_settle.specs.inside.Aside.{AreGrownTo}
use Rattle.pw_settle.proofs.AsideGrowth.{grown_first}
use Rattle.pw_settle.proofs.growing_aside.grown_values.Goals as goal

pub grow_cells-requires-clause-grown : goal.grow_cells-requires-clause-grown
grow_cells-requires-clause-grown g c =
    rw (c.worldview.ensures, c.in_ok-known.ensures.infos, c.in_ok-known.ensures.supports)
    (grown_first (wiring c.args.network.now) c.args.network.now.well c.args.store.now c.requires.start.sound.kinds c.args.worldview.now c.args.before.now
    c.requires.start.settled c.requires.within c.args.agenda.now c.requires.flags c.requires.new)

pub returns-clause-grown : goal.returns-clause-grown
returns-clause-grown g c =
    subst (λ (e : Premises). AreGrownTo (wiring c.args.network.now) c.args.store.now e c.args.worldview.now (length c.args.store.now.cells)
    c.grow_cells.new.known.infos.items c.grow_cells.new.known.supports c.grow_cells.new.agenda) c.worldview.ensures c.in_ok-grow_cells.ensures.grown
