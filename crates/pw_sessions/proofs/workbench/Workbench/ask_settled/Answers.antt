use Rattle.pw_sessions.specs.inside.Fields.{state}
use Rattle.pw_sessions.specs.inside.Steps.{SeesWriter}
use Rattle.pw_sessions.specs.Reply as reply
use Rattle.pw_sessions.proofs.AskedUsers.{asked_settled}
use Rattle.pw_sessions.proofs.workbench.Workbench.ask_settled.Goals as goal

pub returns-clause-asked : goal.returns-clause-asked
returns-clause-asked g c =
    asked_settled (state c.args.self.now) c.args.user c.in-Ok.place (state c.settle_for.new.self) (SeesWriter (state c.args.self.now) c.args.user c.args.cell)
    c.requires.written c.in-Ok.ensures.after (reply.Value c.info.result) c.requires.can c.in-Ok.ensures.settled
