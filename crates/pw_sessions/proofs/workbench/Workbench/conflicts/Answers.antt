use Rattle.std.proofs.Common.{refl, subst, inl, ◌∙◌}
use Rattle.pw_network.specs.Wiring.{wiring}
use Rattle.pw_network.specs.Network.{Network}
use Rattle.pw_settle.specs.Settled.{info_at}
use Rattle.pw_settle.specs.Values.{value_in}
use Rattle.pw_reasons.specs.Conflicts.{AreConflicts}
use Rattle.pw_reasons.proofs.ConflictLemmas.{conflicts_same}
use Rattle.pw_sessions.specs.inside.Fields.{state}
use Rattle.pw_sessions.specs.Freshness.{IsSettledFor}
use Rattle.pw_sessions.specs.Reply as reply
use Rattle.pw_sessions.specs.Workbench.{beliefs_in}
use Rattle.pw_sessions.proofs.AskedUsers.{asked_settled, place_settled}
use Rattle.pw_sessions.proofs.workbench.Workbench.conflicts.Goals as goal

pub returns-clause-answer : goal.returns-clause-answer
returns-clause-answer g c =
    let settled : IsSettledFor (state c.args.self.now) c.args.user c.snapshot.inside.values =
    place_settled (state c.args.self.now) c.args.user c.in-Ok.place (state c.settle_for.new.self) _
    (record { values = c.snapshot.inside.values; is_current = c.snapshot.inside.is_current }) c.in-Ok.ensures.settled
    (c.snapshot.view_is ∙ c.index-snapshot.ensures) in
    inl (
      c.in-Ok-list_conflicts.conflicts,
      refl,
      conflicts_same (wiring c.args.self.now.network) (info_at c.snapshot.inside.values.infos)
          (value_in (wiring c.args.self.now.network) c.args.self.now.store (beliefs_in (state c.args.self.now) c.args.user))
          c.in-Ok-list_conflicts.conflicts settled.values
          (subst (λ (n : Network). AreConflicts n (info_at c.snapshot.inside.values.infos) c.in-Ok-list_conflicts.conflicts)
          c.settle_for.ensures.after.grows.network c.in-Ok-list_conflicts.ensures),
    )

pub returns-clause-asked : goal.returns-clause-asked
returns-clause-asked g c =
    asked_settled (state c.args.self.now) c.args.user c.in-Ok.place (state c.settle_for.new.self) Unit tt c.settle_for.ensures.after
    (reply.Listed c.in-Ok-list_conflicts.conflicts) c.requires.can c.in-Ok.ensures.settled
