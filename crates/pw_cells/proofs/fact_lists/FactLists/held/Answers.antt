use Rattle.std.proofs.Common.{sym, ◌∙◌, ap}
use Rattle.pw_cells.specs.Cells.{Cell}
use Rattle.pw_cells.proofs.fact_lists.FactLists.held.Goals as goal

pub on-requires : goal.on-requires
on-requires g c = ap g.C.Content.fits (c.requires ∙ sym (ap (λ (cell : Cell). cell.kind) c.self.view_is)) ∙ c.self.invariant.3

pub returns : goal.returns
returns g c = λ j. record { info = c.on.ensures.info j; support = c.on.ensures.support j }
