-- Sets of premises, how many premises there may be, and the numbers of a set in order.
use Rattle.std.specs.Prelude.{ℕ, ◌<◌, ◌≡◌, true, false, List, filter}
use Rattle.std.specs.Ordering.{nat_cmp}
use Rattle.std.specs.FinSet.{FinSet, contains}
use Rattle.std.specs.List.{range_with_len}

-- a set of premises, each by its number; so is a worldview
abbrev pub Premises : Type 0
Premises = FinSet nat_cmp

-- premises have the numbers below this one. It is the limit of these sets, which are words with
-- this many bits. Larger sets change only this number; nothing else in a contract depends on it
abbrev pub most_premises : ℕ
most_premises = 512

-- the numbers of the premises that the set contains, in rising order
unfoldable pub numbers_of : Premises → List ℕ
numbers_of premises = filter (contains premises) (range_with_len 0 most_premises)

-- a number is in the set, and none below it is
pub record IsLeast (premises : Premises) (n : ℕ) : Type 0 where
  pub below : n < most_premises
  pub holds : contains premises n ≡ true
  pub least : (q : ℕ) → q < n → contains premises q ≡ false

-- a number is in the set, and none above it is
pub record IsGreatest (premises : Premises) (n : ℕ) : Type 0 where
  pub below : n < most_premises
  pub holds : contains premises n ≡ true
  pub greatest : (q : ℕ) → n < q → contains premises q ≡ false
