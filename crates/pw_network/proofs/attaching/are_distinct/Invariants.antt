use Rattle.std.proofs.Common.{◌≡◌, take}
use Rattle.std.specs.List.{AllPairs}
use Rattle.pw_network.proofs.attaching.are_distinct.Given as goal

abbrev pub invariant-loop-place : goal.invariant-loop-place
invariant-loop-place l = record {
  differ : AllPairs (λ m n. m ≡ n → ⊥) (take l.place l.cells);
}
