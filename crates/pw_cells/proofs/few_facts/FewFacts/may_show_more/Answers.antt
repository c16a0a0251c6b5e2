use Rattle.std.proofs.Common.{List, subst}
use Rattle.pw_info.specs.Information.{Implies}
use Rattle.pw_facts.specs.declared.fact.Fact.{Fact}
use Rattle.pw_cells.specs.Cells.{Cell, kept_of}
use Rattle.pw_cells.specs.inside.OneCell.{AreShownBefore}
use Rattle.pw_cells.proofs.Visible.{shown_before}
use Rattle.pw_cells.proofs.few_facts.FewFacts.may_show_more.Goals as goal

pub returns-clause-less : goal.returns-clause-less
returns-clause-less g c = λ none.
    let before = c.args.before.now in
    let w = c.args.worldview.now in
    subst (λ (cell : Cell). Implies (kept_of cell before) (kept_of cell w)) c.self.view_is
    (shown_before c.self.inside.kind before w c.self.inside.kept.items
    (subst (λ (l : List Fact). AreShownBefore before w l) c.as_slice.ensures.value (c.any_comes_in.ensures none)))
