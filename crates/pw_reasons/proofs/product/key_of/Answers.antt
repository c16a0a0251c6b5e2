use Rattle.std.specs.Cmp.{nat_cmp_total}
use Rattle.std.specs.FinSet.{is_subset-contains}
use Rattle.pw_reasons.proofs.product.key_of.Goals as goal

pub returns-in-Some : goal.returns-in-Some
returns-in-Some c =
    is_subset-contains nat_cmp_total c.without_groups.result c.args.fixed.now c.without_groups.ensures c.in-Some.premise c.in-Some.ensures
