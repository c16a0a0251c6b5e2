use Rattle.std.proofs.Common.{◌≡◌, ℕ, pos, ◌<◌, false}
use Rattle.pw_kinds.specs.Members.{allows}
use Rattle.pw_procs.proofs.bodies.only.first_place.Given as goal

abbrev pub invariant-loop-place : goal.invariant-loop-place
invariant-loop-place l = (k : ℕ) → k < l.place → allows l.part (pos k) ≡ false
