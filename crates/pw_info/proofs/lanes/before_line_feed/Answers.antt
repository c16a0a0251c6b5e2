use Rattle.std.proofs.Common.{◌<◌, IfSome, refl, sym, ◌∙◌, subst, arith}
use Rattle.std.proofs.lemmas.Simd.{zip2_splat, length-chunk}
use lib.Lanes.{chunk}
use Rattle.pw_info.specs.Lines.{is_of_line}
use Rattle.pw_info.proofs.LaneLemmas.{lowest_of, run_within}
use Rattle.pw_info.proofs.lanes.before_line_feed.Goals as goal

pub returns-clause-value : goal.returns-clause-value
returns-clause-value c =
    let v = chunk c.args.at 16 c.args.bytes.now in
    let long = length-chunk c.args.at 16 c.args.bytes.now c.requires in
    c.lowest_set.ensures
    ∙ lowest_of is_of_line c.args.bytes.now c.args.at 16 _ _ c.requires (omega arith) c.type_inv.bytes (zip2_splat _ v 16 10 long) refl

pub returns-clause-within : goal.returns-clause-within
returns-clause-within c =
    subst (λ found. IfSome found (λ run. run < 16)) (sym (returns-clause-value c)) (run_within is_of_line c.args.bytes.now c.args.at 16 c.requires)
