use Rattle.pw_procs.proofs.RegistryNames.{only_memory}
use Rattle.pw_procs.proofs.laws.good_names_are_refused_for_memory_alone.Goals as goal

pub returns : goal.returns
returns c = only_memory
