use Rattle.std.proofs.Common.{sym, subst}
use Rattle.pw_cells.specs.Cells.{Store}
use Rattle.pw_network.specs.Wiring.{wiring}
use Rattle.pw_settle.specs.Sound.{RestsUpstream}
use Rattle.pw_reasons.proofs.ChoiceLemmas.{within_whole}
use Rattle.pw_reasons.proofs.trying.find_nogood.Goals as goal

pub returns-in_err-contradicts_before-clause-upstream : goal.returns-in_err-contradicts_before-clause-upstream
returns-in_err-contradicts_before-clause-upstream g c given rests =
    subst (RestsUpstream (wiring c.args.network.now) given) (sym {A = Store} c.contradicts_before.ensures.unchanged) rests

pub returns-then-branch-clause-some : goal.returns-then-branch-clause-some
returns-then-branch-clause-some g c is =
    within_whole (wiring c.args.network.now) c.args.store.now c.args.part.now c.args.worldview.now c.contradicts_before.new.tried.nogood c.requires.part
    (c.in_ok-contradicts_before.ensures.some c.if-branch.true)

pub returns-then-branch-clause-upstream : goal.returns-then-branch-clause-upstream
returns-then-branch-clause-upstream g c given rests =
    subst (RestsUpstream (wiring c.args.network.now) given) (sym {A = Store} c.contradicts_before.ensures.unchanged) rests

pub returns-clause-upstream : goal.returns-clause-upstream
returns-clause-upstream g c given rests =
    c.contradicts.ensures.upstream given
    (subst (RestsUpstream (wiring c.args.network.now) given) (sym {A = Store} c.contradicts_before.ensures.unchanged) rests)
