use Rattle.std.proofs.Common.{◌≡◌, ◌++◌, length}
use Rattle.pw_network.specs.Batches.{numbers_in}
use Rattle.pw_network.proofs.batch_numbers.BatchNumbersIterator.next.Given as goal

-- those that are left
abbrev pub invariant-loop-number : goal.invariant-loop-number
invariant-loop-number g l = l.self-inside.numbers ++ numbers_in l.self-inside.batches ≡ l.fn.self

abbrev pub decreases-loop-number : goal.decreases-loop-number
decreases-loop-number g l = length l.self-inside.batches
