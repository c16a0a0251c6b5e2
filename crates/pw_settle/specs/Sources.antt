-- The sources of the informations about cells, over cells of any type.
use Rattle.std.specs.Prelude.{◌≡◌, Bool, true, false, List, [], ◌∷◌, ◌++◌, All, map}
use Rattle.std.specs.Bool.{Decides}
use Rattle.pw_info.specs.declared.kind.Kind.{Kind}
use Rattle.pw_info.specs.declared.info.Info.{Info}
use Rattle.pw_info.specs.Information.{kind_of, Implies}
use Rattle.pw_procs.specs.Procedure.{Procedure, value_by}
use Rattle.pw_procs.specs.Signature.{Accepts}

-- cells with any kind of names: a test whether two are the same, and the kind of each
pub record Cells (C : Type 0) : Type 0 where
  pub same : C → C → Bool
  pub decides : (c d : C) → Decides (same c d) (c ≡ d)
  pub kind : C → Kind

-- a source of information: a fact told about a cell; or a propagator, which reads cells and writes
-- one by a procedure
pub data Source (C : Type 0) : Type 0 where
  Told : (cell : C) (info : Info) → Source C
  Propagator : (procedure : Procedure) (inputs : List C) (output : C) → Source C

-- the cell that it informs
abbrev pub cell_of : {C : Type 0} → Source C → C
cell_of (Told cell info) = cell
cell_of (Propagator procedure inputs output) = output

-- it is a propagator, and no told fact
abbrev pub is_propagator : {C : Type 0} → Source C → Bool
is_propagator (Told cell info) = false
is_propagator (Propagator procedure inputs output) = true

-- what it says about that cell, given what is known about the cells: a propagator says the value of
-- its procedure on what is known about its inputs
abbrev pub said_by : {C : Type 0} → (C → Info) → Source C → Info
said_by known (Told cell info) = info
said_by known (Propagator procedure inputs output) = value_by procedure (map known inputs)

-- what is known about its cell says at least what the source says
abbrev pub IsImplied : {C : Type 0} → (C → Info) → Source C → Type 0
IsImplied known source = Implies (known (cell_of source)) (said_by known source)

-- the source over other names of its cells
abbrev pub source_renamed : {C D : Type 0} → (C → D) → Source C → Source D
source_renamed name (Told cell info) = Told (name cell) info
source_renamed name (Propagator procedure inputs output) =
    Propagator procedure (map name inputs) (name output)

-- each cell that the source names is one of these
abbrev pub Names : {C : Type 0} → (C → Type 0) → Source C → Type 0
Names IsHere (Told cell info) = IsHere cell
Names IsHere (Propagator procedure inputs output) = All IsHere inputs × IsHere output

module _ {C : Type 0} (cells : Cells C) where
  -- what is known about each cell is of its kind
  abbrev pub AreOfTheirKinds : (C → Info) → Type 0
  AreOfTheirKinds known = (c : C) → kind_of (known c) ≡ cells.kind c

  -- the source fits the kinds of its cells: what was told is of the cell's kind, and a procedure
  -- accepts the kinds of its cells
  abbrev pub Fits : Source C → Type 0
  Fits (Told cell info) = kind_of info ≡ cells.kind cell
  Fits (Propagator procedure inputs output) =
      ∥ Accepts procedure.signature (map cells.kind inputs ++ cells.kind output ∷ []) ∥₁
