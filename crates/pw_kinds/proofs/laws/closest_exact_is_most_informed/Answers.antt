use Rattle.pw_kinds.proofs.Exacts.{closest_closest, closest_is}
use Rattle.pw_kinds.proofs.laws.closest_exact_is_most_informed.Goals as goal

pub returns : goal.returns
returns c = record { closest = closest_closest; just = closest_is }
