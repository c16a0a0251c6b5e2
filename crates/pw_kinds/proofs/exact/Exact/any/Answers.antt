use Rattle.pw_kinds.proofs.Exacts.{any_is}
use Rattle.pw_kinds.proofs.exact.Exact.any.Goals as goal

pub returns-clause-exact : goal.returns-clause-exact
returns-clause-exact c = any_is
