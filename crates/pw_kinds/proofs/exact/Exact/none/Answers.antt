use Rattle.pw_kinds.proofs.Exacts.{empty_is}
use Rattle.pw_kinds.proofs.exact.Exact.none.Goals as goal

pub returns-clause-exact : goal.returns-clause-exact
returns-clause-exact c = empty_is
