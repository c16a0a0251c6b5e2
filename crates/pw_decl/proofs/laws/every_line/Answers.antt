use Rattle.pw_decl.proofs.LineLaw.{faulty_or_leads}
use Rattle.pw_decl.proofs.laws.every_line.Goals as goal

pub returns : goal.returns
returns c = faulty_or_leads
