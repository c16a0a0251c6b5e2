use Rattle.std.proofs.Common.{IfNone, IfOk, subst}
use Rattle.pw_network.specs.Wiring.{wiring}
use Rattle.pw_premises.specs.Premises.{Premises}
use Rattle.pw_reasons.specs.Combinations.{groups_of, worldviews_of}
use Rattle.pw_reasons.specs.Nogood.{AreNogoods}
use Rattle.pw_sessions.specs.inside.Fields.{state}
use Rattle.pw_sessions.proofs.LastValues.{only_notes}
use Rattle.pw_sessions.proofs.workbench.Workbench.find_choice.Goals as goal

pub returns-clause-none : goal.returns-clause-none
returns-clause-none g c =
    subst (λ (b : Premises). IfOk c.choose.result (λ chosen. IfNone chosen (AreNogoods (wiring c.args.self.now.network) c.args.self.now.store
    (worldviews_of b (groups_of c.args.groups.now))))) c.beliefs_of-beliefs.ensures c.choose.ensures.none

pub returns-clause-grows : goal.returns-clause-grows
returns-clause-grows g c =
    only_notes (state c.args.self.now) c.args.user c.choose.new.store c.choose.new.nogoods c.choose.ensures.grows c.choose.ensures.upstream
    (λ are. c.choose.ensures.nogoods)
