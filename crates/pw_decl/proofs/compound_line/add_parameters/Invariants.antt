use Rattle.std.proofs.Common.{◌≡◌, ◌++◌, true, List, [], length}
use Rattle.std.specs.String.{string_bytes}
use Rattle.pw_info.specs.declared.kind.Kind.{Kind}
use Rattle.pw_decl.specs.Compound.{no_size}
use Rattle.pw_decl.specs.Declaration.{NameKinds, parameter_kinds, parameter_names}
use Rattle.pw_decl.specs.inside.Fields.{declared}
use Rattle.pw_decl.specs.inside.Held.{size_of, steps_of}
use Rattle.pw_decl.specs.inside.Forms.{are_parameters}
use Rattle.pw_decl.proofs.compound_line.add_parameters.Given as goal

-- those that were added and the remaining ones are all, in order
abbrev pub invariant-loop-name : goal.invariant-loop-name
invariant-loop-name g l = record {
  named : are_parameters l.parameters ≡ true;
  names : parameter_names l.fn.parameters ≡ l.opened.names ++ parameter_names l.parameters;
  known : (kinds : List Kind) × NameKinds (declared l.declaration) (parameter_kinds l.parameters) kinds;
  chosen : (rest : List Kind) → NameKinds (declared l.declaration) (parameter_kinds l.parameters) rest
      → NameKinds (declared l.declaration) (parameter_kinds l.fn.parameters) (l.opened.compound.parameters.items ++ rest);
  kinds : l.opened.kinds.items ≡ l.opened.compound.parameters.items;
  name : string_bytes l.opened.name ≡ string_bytes l.fn.opened.name;
  steps : steps_of l.opened.compound.steps.items ≡ [];
  size : size_of l.opened.compound.size ≡ no_size;
}

abbrev pub decreases-loop-name : goal.decreases-loop-name
decreases-loop-name g l = length l.parameters
