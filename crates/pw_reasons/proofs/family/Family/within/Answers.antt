use Rattle.pw_reasons.proofs.FamilyLemmas.{members_below}
use Rattle.pw_reasons.proofs.family.Family.within.Goals as goal

pub find-requires : goal.find-requires
find-requires g c = record { in_range = members_below c.args.premises.now c.numbers-numbers.result c.numbers-numbers.ensures.list c.numbers-numbers.ensures.members }
