use Rattle.std.proofs.Common.{◌≡◌, length}
use Rattle.std.specs.List.{list_any}
use Rattle.std.specs.Str.{bytes_eq}
use Rattle.pw_decl.proofs.set_line.is_among.Given as goal

-- the word is among all if it is among the remaining ones
abbrev pub invariant-loop-other : goal.invariant-loop-other
invariant-loop-other l = list_any (bytes_eq l.word) l.fn.words ≡ list_any (bytes_eq l.word) l.words

abbrev pub decreases-loop-other : goal.decreases-loop-other
decreases-loop-other l = length l.words
