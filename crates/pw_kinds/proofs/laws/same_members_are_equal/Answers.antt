use Rattle.pw_kinds.proofs.MemberSets.{same_values}
use Rattle.pw_kinds.proofs.laws.same_members_are_equal.Goals as goal

pub returns : goal.returns
returns c = same_values
