use Rattle.std.proofs.Common.{take}
use Rattle.pw_decl.specs.inside.Fields.{declared}
use Rattle.pw_decl.specs.inside.Held.{steps_of}
use Rattle.pw_decl.specs.inside.Flattening.{IsFlatSoFar}
use Rattle.pw_decl.proofs.flattening.flatten.Given as goal

-- the lines so far are flattened
abbrev pub invariant-loop-step : goal.invariant-loop-step
invariant-loop-step g l =
    IsFlatSoFar (declared l.fn.declaration).compounds l.parameters (steps_of (take l.step-index l.fn.opened.compound.steps.items)) l.flattening
