use Rattle.pw_decl.proofs.LineFaults.{exact}
use Rattle.pw_decl.proofs.laws.one_declaration_sentence.Goals as goal

pub returns : goal.returns
returns c = exact
