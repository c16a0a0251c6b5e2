-- Settled values: the values of all cells in a worldview.
use Rattle.std.specs.Prelude.{◌≡◌, ℕ, ◌<◌, true, List, length, slice_index_or}
use Rattle.std.specs.FinSet.{empty, is_subset}
use Rattle.pw_info.specs.declared.kind.Kind.TheVariants as kinds
use Rattle.pw_info.specs.declared.info.Info.{Info}
use Rattle.pw_info.specs.Information.{nothing}
use Rattle.pw_premises.specs.Premises.{Premises}
use Rattle.pw_cells.specs.Cells.{Store}
use Rattle.pw_network.specs.Network.{Network, cells_in}
use Rattle.pw_settle.specs.Values.{value_in}

-- an information about each cell, by its number, with premises that it rests on, the worldview in
-- which it holds, the number of instances then, the number of procedure calls made for it, and a mark
-- of what the store kept then
pub record Settled : Type 0 where
  pub infos : List Info
  pub supports : List Premises
  pub worldview : Premises
  pub instances : ℕ
  pub calls : ℕ
  pub mark : ℕ

-- the information of this cell in a list of informations; past the last, nothing of the interval
-- kind
abbrev pub info_at : List Info → ℕ → Info
info_at infos cell = slice_index_or infos cell (nothing kinds.Interval)

-- the premises of this cell in a list of premises; past the last, none
abbrev pub support_at : List Premises → ℕ → Premises
support_at supports cell = slice_index_or supports cell empty

-- they are the values of the cells of the network in this worldview, with what this store was told
pub record IsSettled (network : Network) (store : Store) (worldview : Premises) (settled : Settled)
    : Type 0 where
  pub worldview_is : settled.worldview ≡ worldview
  pub cells : length settled.infos ≡ cells_in network
  pub values : (cell : ℕ) → cell < cells_in network → info_at settled.infos cell
      ≡ value_in network store worldview cell
  -- each rests on premises of the worldview under which it is the value too
  pub supports : length settled.supports ≡ cells_in network
  pub within : (cell : ℕ) → is_subset (support_at settled.supports cell) worldview ≡ true
  pub enough : (cell : ℕ) → cell < cells_in network →
      value_in network store (support_at settled.supports cell) cell
      ≡ value_in network store worldview cell
