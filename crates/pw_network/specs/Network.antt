-- What a network is, its limits, and what an attachment adds to it.
use Rattle.std.specs.Prelude.{◌≡◌, ℕ, ◌+◌, ◌*◌, ◌<◌, ◌≤◌, List, [], ◌∷◌, ◌++◌, All, Option, Some, None}
use Rattle.std.specs.Prelude.{length, map, slice_index_or, true}
use Rattle.std.specs.FinSet.{is_subset}
use Rattle.pw_decl.specs.Limits.{most_cells, most_inner_cells}
use Rattle.std.specs.List.Sorted.{IsNonDecreasingBy}
use Rattle.pw_info.specs.declared.kind.Kind.{Kind}
use Rattle.pw_premises.specs.Premises.{Premises}
use Rattle.pw_decl.specs.declared.step.Callable.{Callable}
use Rattle.pw_decl.specs.Compound.{kinds_at}
use Rattle.pw_decl.specs.Declaration.{Declared, Takes}
use Rattle.pw_decl.specs.Expansion.{Instance, SpeaksOf, FitsCells, expansion_of, inner_kinds_of}
use Rattle.pw_decl.specs.WellDeclared.{IsWellDeclared}
use Rattle.pw_info.specs.declared.kind.Kind.TheVariants as kinds

-- the line of an attachment is at most this
abbrev pub last_attachment_line : ℕ
last_attachment_line = 1000000

-- the greatest number of cells: the declared ones, and for each line the inner ones of an
-- attachment
abbrev pub most_cells_in : ℕ
most_cells_in = most_cells + most_inner_cells * last_attachment_line

-- an instance, the line at which it was attached, and the premises under which it was attached
pub record Attached : Type 0 where
  pub instance : Instance ℕ
  pub line : ℕ
  pub support : Premises

-- an inner cell: the line of its attachment, its number among the inner cells of that attachment,
-- from 0, and its kind
pub record InnerCell : Type 0 where
  pub line : ℕ
  pub number : ℕ
  pub kind : Kind

-- a network over what is declared: its inner cells, whose numbers follow those of the declared
-- cells, its instances, in the order in which they were attached, and the line of the last
-- attachment, 0 before the first
pub record Network : Type 0 where
  pub declared : Declared
  pub inner : List InnerCell
  pub attached : List Attached
  pub last_line : ℕ

-- the declared cells, and nothing attached
abbrev pub bare : Declared → Network
bare d = record { declared = d; inner = []; attached = []; last_line = 0 }

-- the number of cells
abbrev pub cells_in : Network → ℕ
cells_in network = length network.declared.cells + length network.inner

-- the kind of a cell, by its number
abbrev pub kind_in : Network → ℕ → Kind
kind_in network cell = slice_index_or (network.declared.kinds
    ++ map (λ inner. inner.kind) network.inner) cell kinds.Interval

-- where a cell comes from, by its number: an inner cell from a line, in which it has a number; a
-- declared cell from none
abbrev pub origin_in : Network → ℕ → Option (ℕ × ℕ)
origin_in network cell =
    slice_index_or (map (λ name. None) network.declared.cells
    ++ map (λ inner. Some (inner.line, inner.number)) network.inner) cell None

-- ---- attachments

-- the inner cells of an attachment at this line, of these kinds, by their numbers from this one on
abbrev pub inner_cells_from : ℕ → ℕ → List Kind → List InnerCell
inner_cells_from line number [] = []
inner_cells_from line number (kind ∷ kinds) =
    record { line = line; number = number; kind = kind } ∷ inner_cells_from line (number + 1) kinds

-- an instance attached at this line under these premises
abbrev pub attached_at : ℕ → Premises → Instance ℕ → Attached
attached_at line support instance = record { instance = instance; line = line; support = support }

-- the network with a callable attached to these cells: its expansion, whose inner cells have the
-- next numbers
abbrev pub with_attached : Network → ℕ → Callable → List ℕ → Premises → Network
with_attached network line callable cells support =
    record network {
      inner = network.inner ++ inner_cells_from line 0
          (inner_kinds_of network.declared.compounds callable);
      attached = network.attached
          ++ map (attached_at line support) (expansion_of network.declared.compounds callable cells
          (λ j. cells_in network + j));
      last_line = line;
    }

-- ---- properties of every network

-- each instance reads and writes existing cells
abbrev pub InstancesStay : Network → Type 0
InstancesStay network = All (λ attached. SpeaksOf (λ cell.
    cell < cells_in network) attached.instance) network.attached

-- the procedure of each instance accepts the kinds of its cells
abbrev pub InstancesFit : Network → Type 0
InstancesFit network =
    All (λ attached. ∥ FitsCells network.declared.procedures (kind_in network) attached.instance ∥₁)
    network.attached

-- the lines of the inner cells do not fall, in the order of the cells
abbrev pub LinesInOrder : Network → Type 0
LinesInOrder network = IsNonDecreasingBy (λ (inner : InnerCell). inner.line) network.inner

-- no line of an inner cell comes after the line of the last attachment
abbrev pub LinesReached : Network → Type 0
LinesReached network = All (λ inner. inner.line ≤ network.last_line) network.inner

-- an instance comes from line 1 or a later one, and from none after this line
abbrev pub IsAttachedBy : ℕ → Attached → Type 0
IsAttachedBy last attached = (1 ≤ attached.line) × (attached.line ≤ last)

-- two instances have one support if they have one line
abbrev pub IsSupportedAs : Attached → Attached → Type 0
IsSupportedAs one other = one.line ≡ other.line → one.support ≡ other.support

-- the instances of each line have one support
abbrev pub HaveSupportsByLine : List Attached → Type 0
HaveSupportsByLine attached = All (λ one. All (IsSupportedAs one) attached) attached

-- all of this holds, and the limits are kept
pub record IsWellNetwork (network : Network) : Type 0 where
  pub declared : IsWellDeclared network.declared
  pub lines : network.last_line ≤ last_attachment_line
  pub few : length network.inner ≤ most_inner_cells * network.last_line
  pub here : InstancesStay network
  pub fits : InstancesFit network
  pub order : LinesInOrder network
  pub reached : LinesReached network
  pub attached : All (IsAttachedBy network.last_line) network.attached
  pub supports : HaveSupportsByLine network.attached

-- ---- what a worldview shows

-- all instances are visible in the worldview: each rests only on premises of it
abbrev pub AreAllVisible : Network → Premises → Type 0
AreAllVisible network worldview =
    All (λ attached. is_subset attached.support worldview ≡ true) network.attached

-- ---- conditions of an attachment

-- the cells are declared
abbrev pub AreDeclared : Network → List ℕ → Type 0
AreDeclared network cells = All (λ cell. cell < length network.declared.cells) cells

-- the callable takes cells of these cells' kinds
abbrev pub TakesCells : Network → Callable → List ℕ → Type 0
TakesCells network callable cells = Takes network.declared callable
    (kinds_at network.declared.kinds cells)

-- the callable may be attached to the cells at this line: it takes them, they are declared, and the
-- line comes next
pub record MayAttach (network : Network) (line : ℕ) (callable : Callable) (cells : List ℕ)
    : Type 0 where
  pub takes : TakesCells network callable cells
  pub here : AreDeclared network cells
  pub next : network.last_line < line
  pub most : line ≤ last_attachment_line
