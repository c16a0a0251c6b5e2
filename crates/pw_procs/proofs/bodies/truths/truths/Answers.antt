use Rattle.std.proofs.Common.{◌∙◌}
use Rattle.pw_procs.proofs.TruthSets.{truths_from}
use Rattle.pw_procs.proofs.bodies.truths.truths.Goals as goal

pub returns : goal.returns
returns c = λ set at_false at_true.
    c.of_members.ensures.exact ∙ truths_from c.args.may_be_false c.args.may_be_true c.empty.result c.with_if-part.result c.with_if.result
    c.empty.ensures.values c.with_if-part.ensures.values c.with_if.ensures.values
    (c.with_if.ensures.size ∙ c.with_if-part.ensures.size ∙ c.empty.ensures.size) set at_false at_true
