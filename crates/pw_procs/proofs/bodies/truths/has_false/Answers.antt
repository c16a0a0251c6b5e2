use Rattle.std.proofs.Common.{◌∙◌}
use Rattle.pw_procs.proofs.TruthSets.{has_other}
use Rattle.pw_procs.proofs.bodies.truths.has_false.Goals as goal

pub returns : goal.returns
returns c = c.contains.ensures ∙ has_other c.args.p c.requires
