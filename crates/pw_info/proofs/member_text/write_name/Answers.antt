use Rattle.std.proofs.Common.{◌++◌, ap, refl, sym}
use Rattle.pw_info.proofs.PassingFacts.{first_fails, second_writes}
use Rattle.pw_info.proofs.member_text.write_name.Goals as goal

pub returns-in_err-put_all : goal.returns-in_err-put_all
returns-in_err-put_all g c =
    first_fails g.O.Output.passes g.O.Output.has_failed _ _ c.from_residual.result _ c.args.mark.now c.args.name.now
    c.from_residual.ensures.0 c.in_err-put_all.ensures refl

pub returns : goal.returns
returns g c =
    second_writes g.O.Output.passes g.O.Output.has_failed g.met.O.Output.joins _ _ _ c.put_all-2.result _ c.args.mark.now _
    c.in_ok-put_all.ensures c.put_all-2.ensures (ap (λ l. c.args.mark.now ++ l) (sym c.as_bytes.ensures.value))
