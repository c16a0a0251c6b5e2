-- Rows of premises, and the pairs that they hold.
use Rattle.std.specs.Prelude.{◌≡◌, ◌≤◌, ◌+◌, ℕ, true, false, List, [], ◌∷◌, ◌++◌, length, map, slice_index_or}
use Rattle.std.specs.FinSet.{contains, empty, insert}
use Rattle.pw_premises.specs.Premises.{Premises, most_premises, numbers_of}

-- the set of two premises
abbrev pub pair : ℕ → ℕ → Premises
pair p q = insert (insert empty p) q

-- the row of a premise, which is empty past the last row
abbrev pub row_of : List Premises → ℕ → Premises
row_of rows p = slice_index_or rows p empty

-- the pairs of each premise with those of its row, where the first row is that of this premise
abbrev pub pairs_from : ℕ → List Premises → List Premises
pairs_from p [] = []
pairs_from p (row ∷ rows) = map (pair p) (numbers_of row) ++ pairs_from (p + 1) rows

-- the pairs that the rows hold: each premise with those of its row
abbrev pub pairs_in : List Premises → List Premises
pairs_in rows = pairs_from 0 rows

-- of two premises each is in the row of the other, or neither is; and none is in its own
pub record AreMutual (rows : List Premises) : Type 0 where
  pub back : (p q : ℕ) → contains (row_of rows p) q ≡ true → contains (row_of rows q) p ≡ true
  pub apart : (p : ℕ) → contains (row_of rows p) p ≡ false
  pub few : length rows ≤ most_premises
