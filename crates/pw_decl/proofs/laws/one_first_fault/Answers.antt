use Rattle.pw_decl.proofs.LineFaults.{one_fault}
use Rattle.pw_decl.proofs.laws.one_first_fault.Goals as goal

pub returns : goal.returns
returns c = one_fault
