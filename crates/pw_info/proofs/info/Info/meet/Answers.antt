use Rattle.std.proofs.Common.{refl, sym, ◌∙◌, ap}
use Rattle.pw_info.specs.Information.{kind_of}
use Rattle.pw_info.proofs.Informations.{same_set, sizes_agree}
use Rattle.pw_info.proofs.info.Info.meet.Goals as goal

pub meet-requires-in-Members-Members : goal.meet-requires-in-Members-Members
meet-requires-in-Members-Members c = sizes_agree _ _ _ _ _ _ c.requires c.in-Members-Members.is-0 c.in-Members-Members.is-1

pub returns-in-Members-Members-clause-kind : goal.returns-in-Members-Members-clause-kind
returns-in-Members-Members-clause-kind c = same_set _ _ refl c.meet-in-Members-Members.ensures.size ∙ ap kind_of (sym c.in-Members-Members.is-0)
