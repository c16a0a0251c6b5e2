use Rattle.pw_decl.proofs.LineFaults.{not_both}
use Rattle.pw_decl.proofs.laws.fault_or_declaration.Goals as goal

pub returns : goal.returns
returns c = not_both
