use Rattle.std.proofs.Common.{not, sym, ◌∙◌}
use Rattle.pw_info.specs.declared.info.Info.TheVariants as info
use Rattle.pw_procs.specs.Values.{is_true, truth, image_of_one}
use Rattle.pw_procs.proofs.TruthSets.{negation_false, negation_true}
use Rattle.pw_procs.proofs.bodies.truths.negation.Goals as goal

pub returns : goal.returns
returns c =
    let p = info.Members 0 c.args.p in
    c.truths.ensures (image_of_one (λ a. truth (not (is_true a))) p) (negation_false p ∙ sym c.has_true.ensures) (negation_true p ∙ sym c.has_false.ensures)
