use Rattle.std.proofs.Common.{◌≡◌, ◌<◌, ℕ, true, false}
use Rattle.std.specs.FinSet.{contains}
use Rattle.pw_reasons.specs.inside.PairRows.{row_of}
use Rattle.pw_reasons.proofs.pairs.Pairs.within.Given as goal

-- none of the premises so far makes a pair with another of them
abbrev pub invariant-loop-premise : goal.invariant-loop-premise
invariant-loop-premise g l = (p : ℕ) → p < l.premise → (q : ℕ) → contains (row_of l.self-inside.rows.items p) q ≡ true →
    contains l.premises p ≡ true → contains l.premises q ≡ false
