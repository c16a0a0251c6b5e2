-- What a cell shows in a worldview.
use Rattle.std.specs.Prelude.{◌≡◌, ℕ, true}
use Rattle.std.specs.FinSet.{is_subset}
use Rattle.pw_info.specs.Information.{kind_of, Implies}
use Rattle.pw_premises.specs.Premises.{Premises}
use Rattle.pw_facts.specs.declared.fact.Fact.{Fact}
use Rattle.pw_facts.specs.Facts.{IsLeastAbove, IsMostBelow}
use Rattle.pw_cells.specs.Cells.{Cell, Store, ArePremisesOf, cell_at, kept_of, told_of}

-- the fact says what is kept of the cell in the worldview, and rests on premises of the worldview
-- that give the same
pub record IsKeptOf (cell : Cell) (worldview : Premises) (fact : Fact) : Type 0 where
  pub info : fact.info ≡ kept_of cell worldview
  pub kind : kind_of fact.info ≡ cell.kind
  pub within : is_subset fact.support worldview ≡ true
  pub same : kept_of cell fact.support ≡ fact.info
  -- each of these premises is a premise of a fact that is kept of the cell
  pub rests : ArePremisesOf cell.kept fact.support
  -- it says at least what was told
  pub told : Implies fact.info (told_of cell worldview)
  -- a worldview that has these premises keeps at least as much, and one inside the worldview at
  -- most as much
  pub larger : IsLeastAbove fact.support (kept_of cell) fact.info
  pub smaller : IsMostBelow worldview (kept_of cell) fact.info

-- the same for the cell of this number
abbrev pub IsKeptIn : Store → ℕ → Premises → Fact → Type 0
IsKeptIn store cell worldview fact = IsKeptOf (cell_at store cell) worldview fact
