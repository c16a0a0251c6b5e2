use Rattle.std.proofs.Common.{sym, subst}
use Rattle.pw_cells.specs.Cells.{Store}
use Rattle.pw_network.specs.Wiring.{wiring}
use Rattle.pw_settle.specs.Sound.{RestsUpstream}
use Rattle.pw_reasons.proofs.trying.values_in.Goals as goal

pub returns-in-Some-clause-upstream : goal.returns-in-Some-clause-upstream
returns-in-Some-clause-upstream g c given rests =
    subst (RestsUpstream (wiring c.args.network.now) given) (sym {A = Store} c.settle_aside.ensures.unchanged) rests
