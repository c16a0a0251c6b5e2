use Rattle.std.proofs.Common.{◌↔◌, length}
use Rattle.std.specs.List.{IsDistinct}
use Rattle.std.specs.Str.{bytes_eq}
use Rattle.pw_decl.proofs.set_line.are_distinct.Given as goal

-- all differ where the remaining ones do
abbrev pub invariant-loop-word : goal.invariant-loop-word
invariant-loop-word l = IsDistinct bytes_eq l.fn.words ↔ IsDistinct bytes_eq l.words

abbrev pub decreases-loop-word : goal.decreases-loop-word
decreases-loop-word l = length l.words
