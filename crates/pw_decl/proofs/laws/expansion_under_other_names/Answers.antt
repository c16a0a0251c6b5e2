use Rattle.pw_decl.proofs.ExpansionLemmas.{expansion_renamed}
use Rattle.pw_decl.proofs.laws.expansion_under_other_names.Goals as goal

pub returns : goal.returns
returns g c = expansion_renamed
