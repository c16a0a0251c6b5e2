use Rattle.std.proofs.Common.{Option, IfSome, subst}
use Rattle.pw_reasons.specs.declared.picks.Picks.{Picks}
use Rattle.pw_reasons.specs.Combinations.{groups_of, picked_in}
use Rattle.pw_sessions.specs.inside.Fields.{state}
use Rattle.pw_sessions.specs.inside.Steps.{IsFirstChoice}
use Rattle.pw_sessions.specs.Workbench.{Workbench, beliefs_in}
use Rattle.pw_sessions.proofs.ChosenLines.{chosen_some, taken_fit}
use Rattle.pw_sessions.proofs.workbench.Workbench.choose.Goals as goal

pub worldview_with-worldview-requires-clause-picks : goal.worldview_with-worldview-requires-clause-picks
worldview_with-worldview-requires-clause-picks g c =
    let bench : Workbench = state c.args.self.now in
    taken_fit bench.network bench.store (beliefs_in bench c.args.user) (groups_of c.args.groups) (picked_in c.in-Some.picks) c.requires.premises
    (subst (λ (o : Option Picks). IfSome o (λ picks. IsFirstChoice bench c.args.user (groups_of c.args.groups) (picked_in picks)))
    c.in-Some.is c.in-Ok.ensures.some)

pub returns-clause-chosen : goal.returns-clause-chosen
returns-clause-chosen g c =
    let bench : Workbench = state c.args.self.now in
    chosen_some bench (state c.find_choice.new.self) (state c.set_beliefs.new.self) c.args.user (groups_of c.args.groups) (picked_in c.in-Some.picks)
    c.beliefs_of-beliefs.result c.worldview_with-worldview.result c.in-Ok.ensures.grows c.in-Ok.ensures.snapshots c.in-Ok.ensures.calls
    (subst (λ (o : Option Picks). IfSome o (λ picks. IsFirstChoice bench c.args.user (groups_of c.args.groups) (picked_in picks)))
    c.in-Some.is c.in-Ok.ensures.some)
    c.beliefs_of-beliefs.ensures c.worldview_with-worldview.ensures c.set_beliefs.ensures
