use Rattle.std.proofs.Common.{rules, arith}
use Rattle.pw_procs.proofs.RuleValues.{same_kinds, guard_fails, guard_passes}
use Rattle.pw_procs.proofs.bodies.rules.applies.Goals as goal

pub implies-requires : goal.implies-requires
implies-requires c =
    same_kinds c.args.guards.now c.args.inputs.now c.loop-place.place _ _ c.requires (omega arith) c.index-guards-place.is c.index-inputs-place.is

pub returns-then-not-implies : goal.returns-then-not-implies
returns-then-not-implies c =
    guard_fails c.args.guards.now c.args.inputs.now c.loop-place.place c.index-guards-place.result c.index-inputs-place.result c.requires (omega arith)
    c.index-guards-place.is c.index-inputs-place.is c.loop-place.invariant (λ implied. search rules)

pub loop-place-preserved : goal.loop-place-preserved
loop-place-preserved c =
    guard_passes c.args.guards.now c.args.inputs.now c.loop-place.place c.index-guards-place.result c.index-inputs-place.result c.requires (omega arith)
    c.index-guards-place.is c.index-inputs-place.is c.loop-place.invariant (search rules)
