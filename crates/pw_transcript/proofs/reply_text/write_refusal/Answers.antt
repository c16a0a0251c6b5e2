use Rattle.std.proofs.Common.{ℕ, List, ◌++◌, codes, refl, sym, ap}
use Rattle.pw_info.proofs.PassingFacts.{first_fails, second_writes}
use Rattle.pw_transcript.specs.ReplyText.{text_of_refusal}
use Rattle.pw_transcript.proofs.reply_text.write_refusal.Goals as goal

pub returns-in_err-put_all : goal.returns-in_err-put_all
returns-in_err-put_all g c =
    first_fails g.O.Output.passes g.O.Output.has_failed _ _ c.from_residual.result _ (codes "refused ") (text_of_refusal c.args.refusal)
    c.from_residual.ensures.0 c.in_err-put_all.ensures refl

pub returns : goal.returns
returns g c =
    second_writes g.O.Output.passes g.O.Output.has_failed g.met.O.Output.joins _ _ _ c.put_all-2.result _ (codes "refused ") _
    c.in_ok-put_all.ensures c.put_all-2.ensures (ap (λ (text : List ℕ). codes "refused " ++ text) (sym c.refusal_text.ensures))
