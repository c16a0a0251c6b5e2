use Rattle.pw_network.proofs.NameLemmas.{attached_by_name, kept_name}
use Rattle.pw_network.proofs.laws.instances_by_name.Goals as goal

pub returns-clause-named : goal.returns-clause-named
returns-clause-named c = attached_by_name

pub returns-clause-kept : goal.returns-clause-kept
returns-clause-kept c = kept_name
