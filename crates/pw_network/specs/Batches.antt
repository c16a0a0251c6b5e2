-- The instances that read a cell, or write it, batch by batch.
use Rattle.std.specs.Prelude.{ℕ, List, [], ◌∷◌, ◌++◌}
use Rattle.pw_network.specs.declared.batch.Batch.{Batch}
use Rattle.pw_network.specs.declared.batch.Batch.TheVariants.{One, Many}

-- the numbers of the instances of a batch
abbrev pub numbers_of : Batch → List ℕ
numbers_of (One number) = number ∷ []
numbers_of (Many numbers) = numbers

-- those of all batches, one after another
abbrev pub numbers_in : List Batch → List ℕ
numbers_in [] = []
numbers_in (batch ∷ batches) = numbers_of batch ++ numbers_in batches
