-- The contradictory cells of a network, and the attachments that have such inner cells.
use Rattle.std.specs.Prelude.{◌≡◌, ◌↔◌, ℕ, ◌<◌, true, List, Contains, Some, filter, length}
use Rattle.std.specs.List.{range_with_len}
use Rattle.std.specs.List.Sorted.{IsStrictlyIncreasing}
use Rattle.pw_info.specs.declared.info.Info.{Info}
use Rattle.pw_network.specs.Network.{Network, cells_in, origin_in}
use Rattle.pw_reasons.specs.SameInfo.{is_contradiction}

-- numbers of declared cells, and of lines
pub record Conflicts : Type 0 where
  pub cells : List ℕ
  pub lines : List ℕ

-- the attachment of this line has an inner cell whose value is a contradiction
pub record HasConflict (network : Network) (value : ℕ → Info) (line : ℕ) : Type 0 where
  pub cell : ℕ
  pub number : ℕ
  pub here : cell < cells_in network
  pub origin : origin_in network cell ≡ Some (line, number)
  pub contradictory : is_contradiction (value cell) ≡ true

-- given the values of its cells, these are the conflicts of the network: the declared cells whose
-- value is a contradiction, in order; and the lines of the attachments with an inner cell like
-- that, in rising order, each once
pub record AreConflicts (network : Network) (value : ℕ → Info) (conflicts : Conflicts)
    : Type 0 where
  pub cells : conflicts.cells ≡ filter (λ cell.
      is_contradiction (value cell)) (range_with_len 0 (length network.declared.cells))
  pub rising : IsStrictlyIncreasing conflicts.lines
  pub lines : (line : ℕ) → Contains conflicts.lines line ↔ HasConflict network value line

-- the declared cells of which this says a contradiction, in declared order
abbrev pub contradictory_cells : Network → (ℕ → Info) → List ℕ
contradictory_cells network info =
    filter (λ cell. is_contradiction (info cell)) (range_with_len 0 (length network.declared.cells))
