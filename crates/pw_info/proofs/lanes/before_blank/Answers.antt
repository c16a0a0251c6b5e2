use Rattle.std.proofs.Common.{◌<◌, ◌≤◌, IfSome, refl, sym, ◌∙◌, subst, arith}
use Rattle.std.proofs.lemmas.Simd.{zip2_splat, zip2_of_maps, length-chunk}
use lib.Lanes.{chunk}
use Rattle.pw_info.specs.Words.{is_plain}
use Rattle.pw_info.proofs.LaneLemmas.{lowest_of, run_within}
use Rattle.pw_info.proofs.lanes.before_blank.Goals as goal

pub returns-clause-value : goal.returns-clause-value
returns-clause-value c =
    let v = chunk c.args.at 16 c.args.bytes.now in
    let long = length-chunk c.args.at 16 c.args.bytes.now c.requires in
    let few : 16 ≤ 64 = omega arith in
    let spaces = zip2_splat _ v 16 32 long in
    let tabs = zip2_splat _ v 16 9 long in
    let returns = zip2_splat _ v 16 13 long in
    c.lowest_set.ensures
    ∙ lowest_of is_plain c.args.bytes.now c.args.at 16 _ _ c.requires few c.type_inv.bytes
    (zip2_of_maps _ _ _ v (zip2_of_maps _ _ _ v spaces tabs) returns) refl

pub returns-clause-within : goal.returns-clause-within
returns-clause-within c =
    subst (λ found. IfSome found (λ run. run < 16)) (sym (returns-clause-value c)) (run_within is_plain c.args.bytes.now c.args.at 16 c.requires)
