use Rattle.std.proofs.Common.{refl}
use Rattle.pw_info.proofs.PassingFacts.{first_fails, second_writes}
use Rattle.pw_decl.specs.inside.Fields.{declared}
use Rattle.pw_transcript.specs.ReplyText.{premise_names, text_of_names}
use Rattle.pw_transcript.proofs.reply_text.write_word_and_premises.Goals as goal

pub returns-in_err-put_all : goal.returns-in_err-put_all
returns-in_err-put_all g c =
    first_fails g.O.Output.passes g.O.Output.has_failed _ _ c.from_residual.result _ c.args.word.now
    (text_of_names (premise_names (declared c.args.declaration.now) c.args.premises))
    c.from_residual.ensures.0 c.in_err-put_all.ensures refl

pub returns : goal.returns
returns g c =
    second_writes g.O.Output.passes g.O.Output.has_failed g.met.O.Output.joins _ _ _ c.write_premises.result _ c.args.word.now
    (text_of_names (premise_names (declared c.args.declaration.now) c.args.premises))
    c.in_ok-put_all.ensures c.write_premises.ensures refl
