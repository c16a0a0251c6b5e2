use Rattle.std.proofs.Common.{◌∙◌, ap}
use Rattle.pw_info.specs.Information.{kind_of}
use Rattle.pw_cells.specs.Cells.{Cell}
use Rattle.pw_cells.proofs.Together.{kind-shown_by, larger_shown}
use Rattle.pw_cells.proofs.fact_lists.FactLists.told.Goals as goal

pub returns-clause-kind : goal.returns-clause-kind
returns-clause-kind g c =
    ap kind_of c.shown.ensures ∙ kind-shown_by c.self.inside.kind c.args.worldview.now c.self.inside.told ∙ ap (λ (cell : Cell). cell.kind) c.self.view_is

pub returns-clause-larger : goal.returns-clause-larger
returns-clause-larger g c = λ w sub. rw (c.shown.ensures, ← c.self.view_is)
    (larger_shown c.self.inside.kind c.args.worldview.now w c.self.inside.told sub)
