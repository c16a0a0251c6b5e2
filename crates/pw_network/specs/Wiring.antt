-- What a network in the code is, and what its cells are called.
use Rattle.pw_decl.specs.inside.Fields.{declared}
use Rattle.pw_network.specs.declared.network.Network.{Network as NetworkType}
use Rattle.pw_network.specs.inside.Held.{wiring_from}
use Rattle.pw_network.specs.Network.{Network, origin_in}
use Rattle.std.specs.Prelude.{ℕ, Option, Some, None}
use Rattle.std.specs.Prelude.{◌≡◌, ◌+◌, ◌<◌, List, All, map, length}
use Rattle.pw_premises.specs.Premises.{Premises}
use Rattle.pw_decl.specs.declared.step.Callable.{Callable}
use Rattle.pw_decl.specs.Expansion.{expansion_of, renamed}
use Rattle.pw_network.specs.Network.{cells_in, with_attached}

-- the network
abbrev pub wiring : {A : _} {X : Type 0} {F : X → Type 0} {C : _} → NetworkType A X F C → Network
wiring network =
    wiring_from (declared network.declaration.now) network.inner.items network.instances.items
    network.last_line

-- a declared cell, by its number in the declaration; or an inner cell, by the line of its
-- attachment and its number there
pub data Name : Type 0 where
  DeclaredCell : (cell : ℕ) → Name
  InnerCellOf : (line number : ℕ) → Name

-- the name of the cell of this number, given where it comes from
abbrev pub name_from : ℕ → Option (ℕ × ℕ) → Name
name_from cell None = DeclaredCell cell
name_from cell (Some (line, number)) = InnerCellOf line number

-- the name of a cell of a network, by its number
abbrev pub name_in : Network → ℕ → Name
name_in network cell = name_from cell (origin_in network cell)

-- attached instances are those of the expansion, by name
abbrev pub InstancesByName : Type 0
InstancesByName =
    (network : Network) (line : ℕ) (callable : Callable) (cells : List ℕ) (support : Premises) →
    All (λ cell. cell < length network.declared.cells) cells →
    map (renamed (name_in (with_attached network line callable cells support)))
    (expansion_of network.declared.compounds callable cells (λ j. cells_in network + j))
    ≡ expansion_of network.declared.compounds callable (map DeclaredCell cells) (InnerCellOf line)

-- cells that were there have the names that they had
abbrev pub NamesStay : Type 0
NamesStay =
    (network : Network) (line : ℕ) (callable : Callable) (cells : List ℕ) (support : Premises)
    (cell : ℕ) → cell < cells_in network →
    name_in (with_attached network line callable cells support) cell ≡ name_in network cell
