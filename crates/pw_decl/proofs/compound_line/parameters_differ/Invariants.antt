use Rattle.std.proofs.Common.{◌↔◌, length}
use Rattle.std.specs.List.{IsDistinct}
use Rattle.std.specs.Str.{bytes_eq}
use Rattle.pw_decl.specs.Declaration.{parameter_names}
use Rattle.pw_decl.proofs.compound_line.parameters_differ.Given as goal

-- all differ where the remaining ones do
abbrev pub invariant-loop-name : goal.invariant-loop-name
invariant-loop-name l = IsDistinct bytes_eq (parameter_names l.fn.parameters) ↔ IsDistinct bytes_eq (parameter_names l.parameters)

abbrev pub decreases-loop-name : goal.decreases-loop-name
decreases-loop-name l = length l.parameters
