use Rattle.std.proofs.Common.{◌≡◌, ◌++◌, length}
use Rattle.std.specs.List.{flat_map}
use Rattle.workbench.specs.Listing.{outer_lines, spoken_in, text_of_listing, text_of_words}
use Rattle.workbench.proofs.listing.listing_of.Given as goal

-- what is listed so far, and the listing of the remaining lines
abbrev pub invariant-loop-line : goal.invariant-loop-line
invariant-loop-line g l =
    l.listing.items ++ flat_map text_of_words (outer_lines l.place (spoken_in l.lines)) ≡ text_of_listing l.fn.text

abbrev pub decreases-loop-line : goal.decreases-loop-line
decreases-loop-line g l = length l.lines
