use Rattle.std.proofs.Common.{◌∙◌}
use Rattle.pw_sessions.specs.inside.Fields.{state}
use Rattle.pw_sessions.proofs.BlankLines.{user_is_there, user_is_declared}
use Rattle.pw_sessions.proofs.workbench.Workbench.beliefs.Goals as goal

pub beliefs_of-requires : goal.beliefs_of-requires
beliefs_of-requires g c = user_is_there (state c.args.self.now) c.args.user c.requires

pub returns : goal.returns
returns g c = λ d before left.
    c.beliefs_of.ensures ∙ left.beliefs c.args.user (user_is_declared d before (state c.args.self.now) c.args.user c.requires left)
