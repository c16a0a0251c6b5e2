use Rattle.std.proofs.Common.{◌≡◌, ◌∙◌, arith, ap, sym, w64, to_z, of_z}
use Rattle.std.proofs.lemmas.Int.{ints}
use Rattle.pw_info.proofs.PassingFacts.{first_fails, second_writes, writes_same}
use Rattle.pw_info.proofs.Writings.{text_of_same, text_of_two}
use Rattle.pw_info.proofs.text.write_range.Goals as goal

pub returns-then-lo-hi : goal.returns-then-lo-hi
returns-then-lo-hi g c =
    let same_lo : to_z w64 (of_z w64 c.args.lo) ≡ c.args.lo = omega (arith, ints) in
    let same_hi : to_z w64 (of_z w64 c.args.hi) ≡ c.args.hi = omega (arith, ints) in
    writes_same g.O.Output.passes g.O.Output.has_failed _ _ c.write_number.result _ _
    (text_of_same c.args.lo c.args.hi _ same_lo (sym same_lo ∙ ap (to_z w64) c.if-lo-hi.true ∙ same_hi)) c.write_number.ensures

pub returns-in_err-write_number : goal.returns-in_err-write_number
returns-in_err-write_number g c =
    let same_lo : to_z w64 (of_z w64 c.args.lo) ≡ c.args.lo = omega (arith, ints) in
    let same_hi : to_z w64 (of_z w64 c.args.hi) ≡ c.args.hi = omega (arith, ints) in
    first_fails g.O.Output.passes g.O.Output.has_failed _ _ c.from_residual.result _ _ _ c.from_residual.ensures.0 c.in_err-write_number.ensures
    (text_of_two c.args.lo c.args.hi _ _ same_lo same_hi (λ equal. c.if-lo-hi.false (ap (of_z w64) equal)))

pub returns : goal.returns
returns g c =
    let same_lo : to_z w64 (of_z w64 c.args.lo) ≡ c.args.lo = omega (arith, ints) in
    let same_hi : to_z w64 (of_z w64 c.args.hi) ≡ c.args.hi = omega (arith, ints) in
    second_writes g.O.Output.passes g.O.Output.has_failed g.met.O.Output.joins _ _ _ c.write_end.result _ _ _
    c.in_ok-write_number.ensures c.write_end.ensures
    (text_of_two c.args.lo c.args.hi _ _ same_lo same_hi (λ equal. c.if-lo-hi.false (ap (of_z w64) equal)))
