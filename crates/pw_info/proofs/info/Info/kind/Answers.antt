use Rattle.std.proofs.Common.{refl, sym, ◌∙◌, ap}
use Rattle.pw_info.specs.Information.{kind_of}
use Rattle.pw_info.proofs.Informations.{same_set}
use Rattle.pw_info.proofs.info.Info.kind.Goals as goal

pub returns-in-Members : goal.returns-in-Members
returns-in-Members c = same_set _ _ refl c.size.ensures ∙ ap kind_of (sym c.in-Members.is)
