use Rattle.std.proofs.Common.{IsTrue}
use Rattle.pw_decl.proofs.ExpansionFits.{expansion_speaks}
use Rattle.pw_decl.proofs.laws.expansion_stays_on_its_cells.Goals as goal

pub returns : goal.returns
returns g c here = expansion_speaks (λ cell. IsTrue (here cell))
