use Rattle.std.proofs.Common.{◌≡◌, length}
use Rattle.std.specs.List.{list_any}
use Rattle.std.specs.Str.{bytes_eq}
use Rattle.pw_decl.specs.Declaration.{parameter_names}
use Rattle.pw_decl.proofs.compound_line.names_parameter.Given as goal

-- the word names one of all if it names one of the remaining ones
abbrev pub invariant-loop-name : goal.invariant-loop-name
invariant-loop-name l =
    list_any (bytes_eq l.word) (parameter_names l.fn.parameters) ≡ list_any (bytes_eq l.word) (parameter_names l.parameters)

abbrev pub decreases-loop-name : goal.decreases-loop-name
decreases-loop-name l = length l.parameters
