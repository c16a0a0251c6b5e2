use Rattle.std.proofs.Common.{◌≡◌, ◌+◌, ◌≤◌, ◌++◌, true, length, take, is_some}
use Rattle.std.specs.List.{list_all, filter_map}
use Rattle.pw_procs.specs.Registering.{place_of_name}
use Rattle.pw_procs.specs.inside.Shapes.{most_arguments}
use Rattle.pw_decl.proofs.compound_line.place_arguments.Given as goal

-- the places so far and those of the remaining words are the places of all words
abbrev pub invariant-loop-word : goal.invariant-loop-word
invariant-loop-word g l = record {
  room : length l.places ≡ most_arguments;
  most : l.count ≤ most_arguments;
  counted : l.count + length l.words ≡ length l.fn.words;
  placed : filter_map (place_of_name l.names) l.fn.words ≡ take l.count l.places ++ filter_map (place_of_name l.names) l.words;
  known : list_all (λ word. is_some (place_of_name l.names word)) l.words ≡ true;
}

abbrev pub decreases-loop-word : goal.decreases-loop-word
decreases-loop-word g l = length l.words
