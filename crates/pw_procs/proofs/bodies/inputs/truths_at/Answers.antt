use Rattle.std.proofs.Common.{◌∙◌}
use Rattle.std.proofs.lemmas.List.{get_or_default}
use Rattle.pw_info.specs.Information.{nothing}
use Rattle.pw_info.specs.declared.kind.Kind.TheVariants as kinds
use Rattle.pw_procs.specs.Values.{input}
use Rattle.pw_procs.proofs.FittingInputs.{truths_number, truths_size}
use Rattle.pw_procs.proofs.bodies.inputs.truths_at.Goals as goal

pub returns-clause-value : goal.returns-clause-value
returns-clause-value c =
    truths_number _ _ (input c.args.inputs.now c.args.place)
    (get_or_default c.args.inputs.now c.args.place (nothing kinds.Interval) _ c.requires.here ∙ c.in-Members.is) c.requires.kind

pub returns-clause-size : goal.returns-clause-size
returns-clause-size c =
    truths_size _ _ (input c.args.inputs.now c.args.place)
    (get_or_default c.args.inputs.now c.args.place (nothing kinds.Interval) _ c.requires.here ∙ c.in-Members.is) c.requires.kind
