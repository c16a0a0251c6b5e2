-- The value of a cell grows with the beliefs.
use Rattle.std.proofs.Common.{◌≡◌, ℕ, sym, ◌∙◌}
use Rattle.pw_cells.specs.Cells.{Store, kinds_of}
use Rattle.pw_network.specs.Network.{Network, IsWellNetwork}
use Rattle.pw_settle.specs.Values.{kinds_in, value_in}
use Rattle.pw_settle.proofs.ValueGrows as values
use Rattle.pw_reasons.specs.Reason.{Grows}

-- it is of the cell's kind, and no less is known if more is believed
pub value_grows : (network : Network) (store : Store) → IsWellNetwork network → kinds_of store ≡ kinds_in network → (cell : ℕ) →
    Grows (λ w. value_in network store w cell)
value_grows network store well same cell = record {
  kinds = λ s t. values.kind-value_in network store well same s cell ∙ sym (values.kind-value_in network store well same t cell);
  more = values.value_grows network store well same cell;
}
