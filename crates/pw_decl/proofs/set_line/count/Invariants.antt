use Rattle.std.proofs.Common.{◌≡◌, ◌+◌, ◌≤◌, length}
use Rattle.pw_kinds.specs.Places.{most_members}
use Rattle.pw_decl.proofs.set_line.count.Given as goal

-- those that were counted and the remaining ones are all, and no more are counted than to one too
-- many
abbrev pub invariant-loop-count : goal.invariant-loop-count
invariant-loop-count l = record {
  all : l.count + length l.words ≡ length l.fn.words;
  most : l.count ≤ most_members + 1;
}

abbrev pub decreases-loop-count : goal.decreases-loop-count
decreases-loop-count l = length l.words
