use Rattle.std.proofs.Common.{sym, ◌∙◌}
use Rattle.pw_reasons.proofs.ProductLemmas.{one_missing}
use Rattle.pw_reasons.proofs.product.Product.is_fixed_in.Goals as goal

pub returns : goal.returns
returns c =
    sym (one_missing c.args.self.now.fixed c.args.premises.now c.in-Some.premise (c.args.self.now.fixed_key c.in-Some.premise c.in-Some.is) (sym c.contains.ensures.member ∙ c.if-not-contains.true))
