use Rattle.std.proofs.Common.{codes, refl}
use Rattle.pw_info.proofs.PassingFacts.{first_fails, second_writes}
use Rattle.pw_decl.specs.inside.Fields.{declared}
use Rattle.pw_sessions.specs.Reply as replies
use Rattle.pw_transcript.specs.ReplyText.{text_of_reply}
use Rattle.workbench.proofs.block.write_title.Goals as goal

pub returns-in_err-put_all : goal.returns-in_err-put_all
returns-in_err-put_all g c =
    first_fails g.O.Output.passes g.O.Output.has_failed _ _ c.from_residual.result _ (codes "transcript line ")
    (text_of_reply (declared c.args.declaration.now) c.args.number (replies.Refused c.args.refusal)) c.from_residual.ensures.0 c.in_err-put_all.ensures refl

pub returns : goal.returns
returns g c =
    second_writes g.O.Output.passes g.O.Output.has_failed g.met.O.Output.joins _ _ _ c.write_refused.result _ (codes "transcript line ") _
    c.in_ok-put_all.ensures c.write_refused.ensures refl
