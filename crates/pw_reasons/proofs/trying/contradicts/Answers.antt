use Rattle.std.proofs.Common.{sym, subst}
use Rattle.pw_cells.specs.Cells.{Store}
use Rattle.pw_network.specs.Wiring.{wiring}
use Rattle.pw_settle.specs.Settled.{IsSettled}
use Rattle.pw_settle.specs.Sound.{RestsUpstream}
use Rattle.pw_reasons.proofs.ChoiceLemmas.{contradiction_nogood, none_contradictory}
use Rattle.pw_reasons.proofs.trying.contradicts.Goals as goal

pub returns-then-clashes-clause-upstream : goal.returns-then-clashes-clause-upstream
returns-then-clashes-clause-upstream g c given rests =
    subst (RestsUpstream (wiring c.args.network.now) given) (sym {A = Store} c.clashes.ensures.unchanged) rests

pub returns-in_err-values-clause-upstream : goal.returns-in_err-values-clause-upstream
returns-in_err-values-clause-upstream g c given rests =
    c.values_in.ensures.upstream given (subst (RestsUpstream (wiring c.args.network.now) given) (sym {A = Store} c.clashes.ensures.unchanged) rests)

pub returns-clause-some : goal.returns-clause-some
returns-clause-some g c is =
    contradiction_nogood (wiring c.args.network.now) c.args.store.now c.args.worldview.now c.in_ok-values.values
    (subst (λ (s : Store). IsSettled (wiring c.args.network.now) s c.args.worldview.now c.in_ok-values.values) c.clashes.ensures.unchanged c.in_ok-values.ensures.settled)
    c.take_in_values.new.tried.nogood (c.take_in_values.ensures.some is)

pub returns-clause-none : goal.returns-clause-none
returns-clause-none g c is =
    none_contradictory (wiring c.args.network.now) c.args.store.now c.args.worldview.now c.in_ok-values.values
    (subst (λ (s : Store). IsSettled (wiring c.args.network.now) s c.args.worldview.now c.in_ok-values.values) c.clashes.ensures.unchanged c.in_ok-values.ensures.settled)
    (c.take_in_values.ensures.none is)

pub returns-clause-upstream : goal.returns-clause-upstream
returns-clause-upstream g c given rests =
    c.values_in.ensures.upstream given (subst (RestsUpstream (wiring c.args.network.now) given) (sym {A = Store} c.clashes.ensures.unchanged) rests)
