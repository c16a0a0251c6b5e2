use Rattle.std.proofs.Common.{◌≡◌, arith, refl, w64, to_z, of_z}
use Rattle.std.proofs.lemmas.Int.{ints}
use Rattle.pw_info.proofs.PassingFacts.{writes_same}
use Rattle.pw_info.proofs.Writings.{text_of_any, text_of_none, text_of_one}
use Rattle.pw_info.proofs.text.write_exact.Goals as goal

pub returns-then-is_any : goal.returns-then-is_any
returns-then-is_any g c =
    writes_same g.O.Output.passes g.O.Output.has_failed _ _ c.put_all.result _ _ (text_of_any c.args.part (c.if-is_any.ensures.0 refl)) c.put_all.ensures

pub returns-in-Some : goal.returns-in-Some
returns-in-Some g c =
    let number = c.in-Some.number in
    let same : to_z w64 (of_z w64 number) ≡ number = omega (arith, ints) in
    writes_same g.O.Output.passes g.O.Output.has_failed _ _ c.write_number.result _ _
    (text_of_one c.args.part number _ same ((c.in-Some.ensures number).0 refl)) c.write_number.ensures

pub returns-in-None : goal.returns-in-None
returns-in-None g c =
    writes_same g.O.Output.passes g.O.Output.has_failed _ _ c.put_all-in-None.result _ _
    (text_of_none c.args.part c.if-is_any.ensures.1 (λ n. (c.in-None.ensures n).1)) c.put_all-in-None.ensures
