-- How the code holds lists of at most a few things, and the names of a table.
use Rattle.std.specs.Prelude.{ℕ, List, ◌≡◌, ◌≤◌, ◌-◌, take, drop, replicate}
use Rattle.pw_procs.specs.declared.name.Name.{Name}
use Rattle.pw_procs.specs.declared.name.Name.TheVariants.{Kept, Sought}
use Rattle.pw_procs.specs.declared.signature.Slot.{Slot}
use Rattle.pw_procs.specs.Slots.{AreSlots, most_inputs}

-- the bytes of a name or of a word
abbrev pub name_bytes : {A : _} → Name A → List ℕ
name_bytes (Kept bytes) = bytes.items
name_bytes (Sought bytes) = bytes.now

-- the greatest number of cells that a procedure may be put between
abbrev pub most_arguments : ℕ
most_arguments = 9

-- the first `count` of these are the inputs of a procedure with this output
pub record IsSignature (slots : List Slot) (count : ℕ) (output : Slot) : Type 0 where
  pub most : count ≤ most_inputs
  pub inputs : AreSlots (take count slots) output

-- the first `count` of these nine numbers are one to nine cells, and the others are 0
pub record AreArguments (cells : List ℕ) (count : ℕ) : Type 0 where
  pub some : 1 ≤ count
  pub most : count ≤ most_arguments
  pub rest : drop count cells ≡ replicate (most_arguments - count) 0
