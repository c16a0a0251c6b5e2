-- What follows from sources of information: everything that they say is merged, cell by cell, until
-- nothing changes.
use Rattle.std.specs.Prelude.{◌≡◌, ℕ, ◌*◌, not, List, ◌++◌, All, Contains, fold, filter, length}
use Rattle.std.specs.Prelude.{map, if◌then◌else◌}
use Rattle.std.specs.Fn.{iterate}
use Rattle.pw_info.specs.declared.info.Info.{Info}
use Rattle.pw_info.specs.Information.{meet, nothing}
use Rattle.pw_settle.specs.Sources.{Cells, Source, Told, cell_of, is_propagator, said_by, Fits}

-- this many rounds for each cell are enough: each round but the last makes some cell more informed,
-- which can happen to a cell at most as many times as it has possible values. An interval has
-- 2,000,001, and no kind has more
abbrev pub rounds_of_a_cell : ℕ
rounds_of_a_cell = 2000002

module _ {C : Type 0} (cells : Cells C) where
  -- an information about a cell, merged with what a source says about this cell
  abbrev pub with_source : (C → Info) → C → Info → Source C → Info
  with_source known cell info source = if cells.same (cell_of source) cell then meet info
      (said_by known source) else info

  -- a round: what is known about a cell is merged with everything that the sources say about it
  abbrev pub round : List (Source C) → (C → Info) → C → Info
  round sources known cell = fold (with_source known cell) (known cell) sources

  -- nothing is known about any cell
  abbrev pub unknown_at : C → Info
  unknown_at cell = nothing (cells.kind cell)

  -- what follows from sources over these cells: what is known, starting from nothing, after enough
  -- rounds; a further round changes nothing. It is never computed: the laws of this crate describe
  -- it
  unfoldable pub fixpoint : List C → List (Source C) → C → Info
  fixpoint over sources = iterate (round sources) (length over * rounds_of_a_cell) unknown_at

  -- the told information about a cell: everything told about it, merged
  abbrev pub told_alone : List (Source C) → C → Info
  told_alone sources cell = round (filter (λ source.
      not (is_propagator source)) sources) unknown_at cell

  -- the sources fit the kinds of their cells, and each informs one of these cells
  pub record AreOver (over : List C) (sources : List (Source C)) : Type 0 where
    pub fit : All (Fits cells) sources
    pub within : All (λ source. Contains over (cell_of source)) sources

-- names of cells are names of others: two of the cells in question have different names, and each
-- name is of the kind of its cell
pub record AreNamesOf {C D : Type 0} (cells : Cells C) (others : Cells D) (IsHere : C → Type 0)
    (name : C → D) : Type 0 where
  pub apart : (c d : C) → IsHere c → IsHere d → name c ≡ name d → c ≡ d
  pub kinds : (c : C) → IsHere c → others.kind (name c) ≡ cells.kind c

-- the sources with the told facts in one piece: this for each of these cells, and the propagators
-- unchanged
abbrev pub told_in_one : {C : Type 0} → List C → (C → Info) → List (Source C) → List (Source C)
told_in_one over told sources = map (λ cell. Told cell (told cell)) over
    ++ filter is_propagator sources
