use Rattle.pw_reasons.proofs.family.Family.+add_past.Given as goal

abbrev pub decreases-add_past : goal.decreases-add_past
decreases-add_past g l = goal.size-add_past g l
