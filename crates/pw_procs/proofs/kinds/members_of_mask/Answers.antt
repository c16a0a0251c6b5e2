use Rattle.std.proofs.Common.{refl, ◌∙◌}
use Rattle.pw_info.proofs.Informations.{same_set}
use Rattle.pw_procs.proofs.kinds.members_of_mask.Goals as goal

pub returns-in-Some-clause-kind : goal.returns-in-Some-clause-kind
returns-in-Some-clause-kind c = c.of_members.ensures.kind ∙ same_set _ _ refl c.in-Some.ensures.size
