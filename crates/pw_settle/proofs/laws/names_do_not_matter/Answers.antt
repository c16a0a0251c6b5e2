use Rattle.std.proofs.Common.{IsTrue}
use Rattle.pw_settle.proofs.Renaming.{fixpoint_renamed}
use Rattle.pw_settle.proofs.laws.names_do_not_matter.Goals as goal

pub returns : goal.returns
returns g c cells others here name over sources are named = fixpoint_renamed cells others (λ d. IsTrue (here d)) name are sources named over
