use Rattle.std.proofs.Common.{◌∙◌, ap}
use Rattle.pw_info.specs.Information.{kind_of}
use Rattle.pw_cells.specs.Cells.{Cell}
use Rattle.pw_cells.proofs.One.{kind_of_one}
use Rattle.pw_cells.proofs.one_fact.OneFact.kind.Goals as goal

pub returns-clause-kind : goal.returns-clause-kind
returns-clause-kind g c = c.kind.ensures ∙ ap kind_of c.info.ensures ∙ kind_of_one _ _ c.self.invariant.kept_kinds ∙ ap (λ (cell : Cell). cell.kind) c.self.view_is
