use Rattle.std.proofs.Common.{◌∙◌}
use Rattle.pw_info.specs.declared.info.Info.TheVariants as info
use Rattle.pw_procs.proofs.TruthSets.{has_one}
use Rattle.pw_procs.proofs.bodies.truths.has_true.Goals as goal

pub returns : goal.returns
returns c = c.contains.ensures ∙ has_one (info.Members 0 c.args.p)
