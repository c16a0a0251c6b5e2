use Rattle.std.proofs.Common.{◌≡◌, ◌++◌, codes, length}
use Rattle.std.specs.List.{flat_map}
use Rattle.workbench.specs.Listing.{after_space, text_of_words}
use Rattle.workbench.proofs.listing.add_words.Given as goal

-- what is added so far, and what remains
abbrev pub invariant-loop-word : goal.invariant-loop-word
invariant-loop-word g l =
    l.listing.items ++ (flat_map after_space l.words ++ codes "\n") ≡ l.fn.listing.items ++ text_of_words l.fn.words

abbrev pub decreases-loop-word : goal.decreases-loop-word
decreases-loop-word g l = length l.words
