use Rattle.pw_decl.proofs.LineLaw.{kept, spelled_well}
use Rattle.pw_decl.proofs.PreludeLaw.{spelled_prelude}
use Rattle.pw_decl.proofs.laws.well_declared.Goals as goal

pub returns-clause-line : goal.returns-clause-line
returns-clause-line c = kept

pub returns-clause-text : goal.returns-clause-text
returns-clause-text c = spelled_well

pub returns-clause-prelude : goal.returns-clause-prelude
returns-clause-prelude c = spelled_prelude
