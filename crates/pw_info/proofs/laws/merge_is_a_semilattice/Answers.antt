use Rattle.pw_info.proofs.Informations.{meet_comm, meet_assoc, meet_self, meet_nothing, meet_contradiction}
use Rattle.pw_info.proofs.laws.merge_is_a_semilattice.Goals as goal

pub returns : goal.returns
returns c = record { commutative = meet_comm; associative = meet_assoc; idempotent = meet_self; unit = meet_nothing; zero = meet_contradiction }
