use Rattle.pw_kinds.proofs.MemberSets.{closest_closest, closest_is}
use Rattle.pw_kinds.proofs.laws.closest_members_are_those_that_pass.Goals as goal

pub returns : goal.returns
returns c = record { closest = closest_closest; only = λ size p m h. closest_is size p m h.of_size h.holds }
