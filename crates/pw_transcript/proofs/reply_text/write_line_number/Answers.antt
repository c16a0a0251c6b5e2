use Rattle.std.proofs.Common.{ℕ, List, ◌++◌, codes, sym, ap, ◌∙◌}
use Rattle.pw_info.proofs.PassingFacts.{first_fails, second_writes}
use Rattle.pw_transcript.proofs.reply_text.write_line_number.Goals as goal

pub returns-in_err-put_all : goal.returns-in_err-put_all
returns-in_err-put_all g c =
    first_fails g.O.Output.passes g.O.Output.has_failed _ _ c.from_residual.result _ _ (codes ": ")
    c.from_residual.ensures.0 c.in_err-put_all.ensures (ap (λ (text : List ℕ). text ++ codes ": ") (sym (c.as_bytes.ensures.value ∙ c.format.ensures.text)))

pub returns : goal.returns
returns g c =
    second_writes g.O.Output.passes g.O.Output.has_failed g.met.O.Output.joins _ _ _ c.put_all-2.result _ _ (codes ": ")
    c.in_ok-put_all.ensures c.put_all-2.ensures (ap (λ (text : List ℕ). text ++ codes ": ") (sym (c.as_bytes.ensures.value ∙ c.format.ensures.text)))
