use Rattle.std.proofs.Common.{◌≡◌}
use Rattle.pw_reasons.proofs.trying.clashes_anywhere.Given as goal

-- the store is as it was
abbrev pub invariant-loop-place : goal.invariant-loop-place
invariant-loop-place g l = l.store ≡ l.fn.store
