use Rattle.pw_cells.proofs.One.{one_whole}
use Rattle.pw_cells.proofs.one_fact.OneFact.new.Goals as goal

pub invariant_of-result : goal.invariant_of-result
invariant_of-result g c = one_whole _ _ c.requires
