use Rattle.std.proofs.Common.{sym, ◌∙◌, ap}
use Rattle.pw_cells.specs.Cells.{Cell}
use Rattle.pw_cells.specs.inside.Contents.{is_interval}
use Rattle.pw_cells.proofs.one_fact.OneFact.held.Goals as goal

pub on-requires : goal.on-requires
on-requires g c = ap is_interval (c.requires ∙ sym (ap (λ (cell : Cell). cell.kind) c.self.view_is))

pub returns : goal.returns
returns g c = λ j. record { info = c.on.ensures.info j; support = c.on.ensures.support j }
