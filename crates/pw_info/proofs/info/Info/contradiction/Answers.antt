use Rattle.std.proofs.Common.{refl, sym, ◌∙◌, ap}
use Rattle.pw_info.specs.declared.info.Info.TheVariants as info
use Rattle.pw_info.specs.Information.{contradiction}
use Rattle.pw_info.proofs.Informations.{same_set, empty_closest}
use Rattle.pw_info.proofs.info.Info.contradiction.Goals as goal

pub returns-in-Interval-clause-exact : goal.returns-in-Interval-clause-exact
returns-in-Interval-clause-exact c = c.of_interval.ensures.exact ∙ ap info.Interval (c.empty.ensures.exact ∙ empty_closest) ∙ ap contradiction (sym c.in-Interval.is)

pub returns-in-Members-clause-kind : goal.returns-in-Members-clause-kind
returns-in-Members-clause-kind c = c.of_members.ensures.kind ∙ same_set _ c.in-Members.set refl c.empty-in-Members.ensures.size ∙ sym c.in-Members.is
