-- How the code holds at most a few numbers.
use Rattle.std.specs.Prelude.{ℕ, List, ◌≡◌, ◌≤◌, ◌-◌, drop, replicate}

-- the first `count` of these are held, and the others are 0
pub record HoldsFew (most : ℕ) (held : List ℕ) (count : ℕ) : Type 0 where
  pub few : count ≤ most
  pub rest : drop count held ≡ replicate (most - count) 0
