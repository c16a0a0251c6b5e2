use Rattle.std.proofs.Common.{refl, sym, ◌∙◌}
use Rattle.pw_info.proofs.Informations.{same_set}
use Rattle.pw_info.proofs.info.Info.nothing.Goals as goal

pub returns-in-Members-clause-kind : goal.returns-in-Members-clause-kind
returns-in-Members-clause-kind c = c.of_members.ensures.kind ∙ same_set _ c.in-Members.set refl c.full.ensures.size ∙ sym c.in-Members.is
