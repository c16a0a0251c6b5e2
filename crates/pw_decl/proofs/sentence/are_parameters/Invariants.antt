use Rattle.std.proofs.Common.{◌≡◌, length}
use Rattle.pw_decl.specs.inside.Forms.{are_parameters}
use Rattle.pw_decl.proofs.sentence.are_parameters.Given as goal

-- all are parameters where the remaining ones are
abbrev pub invariant-loop-name : goal.invariant-loop-name
invariant-loop-name l = are_parameters l.fn.words ≡ are_parameters l.words

abbrev pub decreases-loop-name : goal.decreases-loop-name
decreases-loop-name l = length l.words
