use Rattle.std.proofs.Common.{ℕ, List, ◌++◌, codes, refl, sym, ap, ◌∙◌}
use Rattle.std.specs.Fmt.{decimal}
use Rattle.pw_info.proofs.PassingFacts.{first_fails, second_writes}
use Rattle.pw_transcript.proofs.reply_text.write_line.Goals as goal

pub returns-in_err-put_all : goal.returns-in_err-put_all
returns-in_err-put_all g c =
    first_fails g.O.Output.passes g.O.Output.has_failed _ _ c.from_residual.result _ (codes " line ") (decimal c.args.line)
    c.from_residual.ensures.0 c.in_err-put_all.ensures refl

pub returns : goal.returns
returns g c =
    second_writes g.O.Output.passes g.O.Output.has_failed g.met.O.Output.joins _ _ _ c.put_all-2.result _ (codes " line ") _
    c.in_ok-put_all.ensures c.put_all-2.ensures (ap (λ (text : List ℕ). codes " line " ++ text) (sym (c.as_bytes.ensures.value ∙ c.format.ensures.text)))
