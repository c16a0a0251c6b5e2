use Rattle.pw_procs.proofs.RegistryNames.{only_memory}
use Rattle.pw_standard.proofs.StandardLists.{registered}
use Rattle.pw_standard.proofs.procedures.registry_of.Goals as goal

pub out_of_memory-requires : goal.out_of_memory-requires
out_of_memory-requires g c = only_memory _ _ (registered _ c.requires) c.in-Err.ensures.fault
