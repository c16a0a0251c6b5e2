use Rattle.std.proofs.Common.{codes, refl, sym, ap}
use Rattle.pw_info.proofs.PassingFacts.{first_fails, second_writes}
use Rattle.pw_transcript.specs.ReplyText.{after_space}
use Rattle.pw_transcript.proofs.reply_text.write_after_space.Goals as goal

pub returns-in_err-put_all : goal.returns-in_err-put_all
returns-in_err-put_all g c =
    first_fails g.O.Output.passes g.O.Output.has_failed _ _ c.from_residual.result _ (codes " ") c.args.name.now
    c.from_residual.ensures.0 c.in_err-put_all.ensures refl

pub returns : goal.returns
returns g c =
    second_writes g.O.Output.passes g.O.Output.has_failed g.met.O.Output.joins _ _ _ c.put_all-2.result _ (codes " ") _
    c.in_ok-put_all.ensures c.put_all-2.ensures (ap after_space (sym c.as_bytes.ensures.value))
