use Rattle.std.proofs.Common.{◌++◌, codes, append_assoc}
use Rattle.pw_info.specs.Text.{text_of_info}
use Rattle.pw_info.proofs.PassingFacts.{first_fails, second_writes}
use Rattle.pw_decl.specs.Declaration.{members_of}
use Rattle.pw_decl.specs.inside.Fields.{declared}
use Rattle.pw_transcript.specs.ReplyText.{premise_names, text_of_names}
use Rattle.pw_transcript.proofs.reply_text.write_because.Goals as goal

pub returns-in_err-write_info : goal.returns-in_err-write_info
returns-in_err-write_info g c =
    first_fails g.O.Output.passes g.O.Output.has_failed _ _ c.from_residual.result _
    (text_of_info (members_of (declared c.args.declaration.now)) c.args.info.now)
    (codes " because" ++ text_of_names (premise_names (declared c.args.declaration.now) c.args.reason))
    c.from_residual.ensures.0 c.in_err-write_info.ensures
    (append_assoc (text_of_info (members_of (declared c.args.declaration.now)) c.args.info.now) (codes " because")
    (text_of_names (premise_names (declared c.args.declaration.now) c.args.reason)))

pub returns : goal.returns
returns g c =
    second_writes g.O.Output.passes g.O.Output.has_failed g.met.O.Output.joins _ _ _ c.write_word_and_premises.result _
    (text_of_info (members_of (declared c.args.declaration.now)) c.args.info.now)
    (codes " because" ++ text_of_names (premise_names (declared c.args.declaration.now) c.args.reason))
    c.in_ok-write_info.ensures c.write_word_and_premises.ensures
    (append_assoc (text_of_info (members_of (declared c.args.declaration.now)) c.args.info.now) (codes " because")
    (text_of_names (premise_names (declared c.args.declaration.now) c.args.reason)))
