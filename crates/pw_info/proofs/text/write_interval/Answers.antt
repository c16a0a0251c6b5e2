use Rattle.std.proofs.Common.{◌≡◌, ◌∙◌, arith, refl, sym, w64, to_z, of_z}
use Rattle.std.proofs.lemmas.Int.{ints}
use Rattle.pw_info.proofs.PassingFacts.{writes_same}
use Rattle.pw_info.proofs.Writings.{text_of_empty, text_of_some, text_of_whole}
use Rattle.pw_info.proofs.text.write_interval.Goals as goal

pub returns-then-is_empty : goal.returns-then-is_empty
returns-then-is_empty g c =
    writes_same g.O.Output.passes g.O.Output.has_failed _ _ c.put_all.result _ _ (text_of_empty c.args.part (c.if-is_empty.ensures.0 refl)) c.put_all.ensures

pub returns-then-within : goal.returns-then-within
returns-then-within g c =
    writes_same g.O.Output.passes g.O.Output.has_failed _ _ c.put_all-then-within.result _ _
    (text_of_whole c.args.part (λ v e. c.if-within.ensures.0 refl v (c.whole.ensures.values v ∙ e))) c.put_all-then-within.ensures

pub returns : goal.returns
returns g c =
    let same_lo : to_z w64 (of_z w64 c.lo.result) ≡ c.lo.result = omega (arith, ints) in
    let same_hi : to_z w64 (of_z w64 c.hi.result) ≡ c.hi.result = omega (arith, ints) in
    writes_same g.O.Output.passes g.O.Output.has_failed _ _ c.write_range.result _ _
    (text_of_some c.args.part c.lo.result c.hi.result _ _ same_lo same_hi
    (λ every. c.if-within.ensures.1 (λ v e. every v (sym (c.whole.ensures.values v) ∙ e))) c.lo.ensures.least c.hi.ensures.greatest)
    c.write_range.ensures
