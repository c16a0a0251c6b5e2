use Rattle.std.proofs.Common.{◌≡◌, ◌<◌, ◌+◌, ◌≤◌, ℕ}
use Rattle.std.specs.Prelude.{slice_index}
use Rattle.pw_premises.proofs.premise_set.PremiseSet.greatest.Given as goal

-- the words from the back are 0
abbrev pub invariant-loop-back : goal.invariant-loop-back
invariant-loop-back l = (j : ℕ) → j < 8 → 8 ≤ j + l.back → slice_index l.self-inside.words j ≡ 0
