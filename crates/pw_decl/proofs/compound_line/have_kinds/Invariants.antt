use Rattle.std.proofs.Common.{◌↔◌, List, length}
use Rattle.pw_info.specs.declared.kind.Kind.{Kind}
use Rattle.pw_decl.specs.Declaration.{NameKinds, parameter_kinds}
use Rattle.pw_decl.specs.inside.Fields.{declared}
use Rattle.pw_decl.proofs.compound_line.have_kinds.Given as goal

-- all kinds are there where the remaining ones are
abbrev pub invariant-loop-parameters : goal.invariant-loop-parameters
invariant-loop-parameters g l =
    ((kinds : List Kind) × NameKinds (declared l.declaration) (parameter_kinds l.fn.parameters) kinds)
    ↔ ((kinds : List Kind) × NameKinds (declared l.declaration) (parameter_kinds l.parameters) kinds)

abbrev pub decreases-loop-parameters : goal.decreases-loop-parameters
decreases-loop-parameters g l = length l.parameters
