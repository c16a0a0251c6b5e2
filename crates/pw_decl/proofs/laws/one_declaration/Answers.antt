use Rattle.pw_decl.proofs.LineFaults.{one_spelled}
use Rattle.pw_decl.proofs.laws.one_declaration.Goals as goal

pub returns : goal.returns
returns c = one_spelled
