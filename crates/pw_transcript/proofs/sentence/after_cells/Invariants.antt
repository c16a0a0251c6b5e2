use Rattle.std.proofs.Common.{◌≡◌, length}
use Rattle.pw_transcript.specs.inside.Forms.{from_under}
use Rattle.pw_transcript.proofs.sentence.after_cells.Given as goal

-- the first `under` is among the remaining words
abbrev pub invariant-loop : goal.invariant-loop
invariant-loop l = from_under l.fn.words ≡ from_under l.words

abbrev pub decreases-loop : goal.decreases-loop
decreases-loop l = length l.words
