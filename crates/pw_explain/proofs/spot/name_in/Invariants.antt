use Rattle.std.proofs.Common.{◌≤◌}
use Rattle.pw_explain.proofs.spot.name_in.Given as goal

-- the name begins in the word, before the byte that is looked at
abbrev pub invariant-loop-at : goal.invariant-loop-at
invariant-loop-at l = (l.word.from ≤ l.from) × (l.from ≤ l.at)
