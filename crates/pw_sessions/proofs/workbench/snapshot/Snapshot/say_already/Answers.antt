use Rattle.std.proofs.Common.{sym, ap, ◌∙◌}
use Rattle.std.specs.Prelude.{not}
use Rattle.std.specs.FinSet.{is_subset}
use Rattle.pw_sessions.specs.Snapshot.{Snapshot}
use Rattle.pw_sessions.proofs.LastValues.{says_of_hidden}
use Rattle.pw_sessions.proofs.workbench.snapshot.Snapshot.say_already.Goals as goal

pub returns-then-not-is_subset : goal.returns-then-not-is_subset
returns-then-not-is_subset g c = (
  λ hidden. says_of_hidden c.args.self.now.values c.args.cell c.args.fact.now c.requires.kind
      (ap (λ (s : Snapshot). is_subset c.args.fact.now.support s.values.worldview) (sym c.self.view_is)
      ∙ ap (is_subset c.args.fact.now.support) (sym c.worldview.ensures) ∙ sym c.is_subset.ensures.subset ∙ c.if-not-is_subset.true),
  λ says. ap not c.if-not-is_subset.true,
)
