use Rattle.pw_decl.proofs.LineLaw.{spelled_or_faulty}
use Rattle.pw_decl.proofs.laws.every_text.Goals as goal

pub returns : goal.returns
returns c = spelled_or_faulty
