use Rattle.std.proofs.Common.{◌≡◌, length, is_some}
use Rattle.std.specs.List.{list_all}
use Rattle.pw_procs.specs.Registering.{place_of_name}
use Rattle.pw_decl.proofs.compound_line.are_cells.Given as goal

-- all name cells where the remaining ones do
abbrev pub invariant-loop-word : goal.invariant-loop-word
invariant-loop-word g l =
    list_all (λ word. is_some (place_of_name l.names word)) l.fn.words ≡ list_all (λ word. is_some (place_of_name l.names word)) l.words

abbrev pub decreases-loop-word : goal.decreases-loop-word
decreases-loop-word g l = length l.words
