-- What one fact changes in a cell.
use Rattle.std.specs.Prelude.{◌≡◌}
use Rattle.pw_info.specs.Information.{kind_of}
use Rattle.pw_facts.specs.declared.fact.Fact.{Fact}
use Rattle.pw_cells.specs.Cells.{Cell, IsUnsaid, kept_of, told_of}
use Rattle.pw_cells.specs.Changes.{Assimilates, GainsFact}

-- the fact is of the cell's kind, and says more than what is kept there on its premises
pub record IsNews (fact : Fact) (cell : Cell) : Type 0 where
  pub kind : kind_of fact.info ≡ cell.kind
  pub news : IsUnsaid (kept_of cell fact.support) fact.info

-- the cell keeps the fact as well; what was told about it is unchanged, and so is its kind
pub record KeepsFact (fact : Fact) (old new : Cell) : Type 0 where
  pub kept : GainsFact fact (kept_of old) (kept_of new)
  pub assimilates : Assimilates fact old.kept new.kept
  pub told : new.told ≡ old.told
  pub kind : new.kind ≡ old.kind

-- the fact was told about the cell, and the cell keeps it; its kind is unchanged
pub record TellsFact (fact : Fact) (old new : Cell) : Type 0 where
  pub told : GainsFact fact (told_of old) (told_of new)
  pub kept : GainsFact fact (kept_of old) (kept_of new)
  pub assimilates : Assimilates fact old.kept new.kept
  pub kind : new.kind ≡ old.kind
