use Rattle.std.proofs.lemmas.Result.{on_ok_weaker}
use Rattle.pw_premises.specs.PremiseSubsets.{empty_is_subset}
use Rattle.pw_reasons.specs.inside.Families.{sets_of}
use Rattle.pw_reasons.proofs.FamilyLemmas.{members_below, more_past_none}
use Rattle.pw_reasons.proofs.family.Family.add.Goals as goal

pub add_past-requires-clause-in_range : goal.add_past-requires-clause-in_range
add_past-requires-clause-in_range g c = members_below c.args.premises.now c.numbers-numbers.result c.numbers-numbers.ensures.list c.numbers-numbers.ensures.members

pub add_past-requires-clause-passed : goal.add_past-requires-clause-passed
add_past-requires-clause-passed g c = rw c.empty.ensures.nothing (empty_is_subset c.args.premises.now)

pub returns-clause-more : goal.returns-clause-more
returns-clause-more g c =
    on_ok_weaker c.add_past.result
    (more_past_none (sets_of c.args.self.now) (sets_of c.add_past.new.self) c.empty.result c.args.premises.now c.empty.ensures.nothing) c.add_past.ensures.more
