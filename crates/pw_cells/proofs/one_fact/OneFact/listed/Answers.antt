use Rattle.pw_cells.proofs.One.{kind_of_one}
use Rattle.pw_cells.proofs.one_fact.OneFact.listed.Goals as goal

pub keeping-requires-clause-kind : goal.keeping-requires-clause-kind
keeping-requires-clause-kind g c = kind_of_one _ _ c.self.invariant.kept_kinds
