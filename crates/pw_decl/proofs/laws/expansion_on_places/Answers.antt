use Rattle.pw_decl.proofs.ExpansionLemmas.{expansion_placed}
use Rattle.pw_decl.proofs.laws.expansion_on_places.Goals as goal

pub returns : goal.returns
returns g c = expansion_placed
