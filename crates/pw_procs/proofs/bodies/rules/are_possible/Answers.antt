use Rattle.std.proofs.Common.{rules, arith}
use Rattle.pw_procs.proofs.RuleValues.{input_fails, input_passes}
use Rattle.pw_procs.proofs.bodies.rules.are_possible.Goals as goal

pub returns-then-is_contradiction : goal.returns-then-is_contradiction
returns-then-is_contradiction c =
    input_fails c.args.inputs.now c.loop-input.input-index c.input-item.result (omega arith) c.input-item.is c.loop-input.invariant (search rules)

pub loop-input-preserved : goal.loop-input-preserved
loop-input-preserved c =
    input_passes c.args.inputs.now c.loop-input.input-index c.input-item.result (omega arith) c.input-item.is c.loop-input.invariant (λ none. search rules)
