use Rattle.std.proofs.Common.{sym, ap, ◌∙◌}
use Rattle.pw_info.specs.GroupNames.{names_in, names_left}
use Rattle.pw_info.proofs.GroupParts.{first_name, one_name}
use Rattle.pw_info.proofs.group_names.GroupNames.next.Goals as goal

pub returns-in_default : goal.returns-in_default
returns-in_default c =
    sym c.self.view_is ∙ ap names_left c.in_ok-word.was ∙ one_name c.in_ok-word.word.now c.in_default.ensures.none

pub returns : goal.returns
returns c =
    sym c.self.view_is ∙ ap names_left c.in_ok-word.was ∙ ap names_in c.in-Some.ensures.some
    ∙ first_name c.in-Some.name.now c.in-Some.rest.now c.in-Some.ensures.first
