use Rattle.std.proofs.Common.{◌≡◌, ◌+◌, ◌≤◌, length}
use Rattle.pw_decl.specs.Declaration.{parameter_names}
use Rattle.pw_decl.specs.Limits.{most_parameters}
use Rattle.pw_decl.proofs.compound_line.count_parameters.Given as goal

-- those that were counted and the remaining ones are all, and no more are counted than to one too
-- many
abbrev pub invariant-loop-count : goal.invariant-loop-count
invariant-loop-count l = record {
  all : l.count + length (parameter_names l.parameters) ≡ length (parameter_names l.fn.parameters);
  most : l.count ≤ most_parameters + 1;
}

abbrev pub decreases-loop-count : goal.decreases-loop-count
decreases-loop-count l = length l.parameters
