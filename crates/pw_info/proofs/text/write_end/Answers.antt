use Rattle.std.proofs.Common.{◌≡◌, ◌++◌, arith, ap, codes, refl, sym, w64, to_z, of_z}
use Rattle.std.proofs.lemmas.Int.{ints}
use Rattle.std.specs.Fmt.{signed_decimal}
use Rattle.pw_info.proofs.PassingFacts.{first_fails, second_writes}
use Rattle.pw_info.proofs.text.write_end.Goals as goal

pub returns-in_err-put_all : goal.returns-in_err-put_all
returns-in_err-put_all g c =
    first_fails g.O.Output.passes g.O.Output.has_failed _ _ c.from_residual.result _ (codes "..") (signed_decimal c.args.number)
    c.from_residual.ensures.0 c.in_err-put_all.ensures refl

pub returns : goal.returns
returns g c =
    let same : to_z w64 (of_z w64 c.args.number) ≡ c.args.number = omega (arith, ints) in
    second_writes g.O.Output.passes g.O.Output.has_failed g.met.O.Output.joins _ _ _ c.write_number.result _ (codes "..") _
    c.in_ok-put_all.ensures c.write_number.ensures (ap (λ n. codes ".." ++ signed_decimal n) (sym same))
