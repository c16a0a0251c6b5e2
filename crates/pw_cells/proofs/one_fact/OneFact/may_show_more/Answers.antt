use Rattle.std.proofs.Common.{◌∷◌, [], List, subst}
use Rattle.pw_info.specs.Information.{Implies}
use Rattle.pw_info.specs.declared.kind.Kind.TheVariants as kinds
use Rattle.pw_facts.specs.declared.fact.Fact.{Fact}
use Rattle.pw_cells.specs.Cells.{Cell, kept_of}
use Rattle.pw_cells.specs.inside.OneCell.{AreShownBefore}
use Rattle.pw_cells.proofs.Visible.{shown_before}
use Rattle.pw_cells.proofs.one_fact.OneFact.may_show_more.Goals as goal

pub returns-clause-less : goal.returns-clause-less
returns-clause-less g c = λ none.
    let before = c.args.before.now in
    let w = c.args.worldview.now in
    subst (λ (cell : Cell). Implies (kept_of cell before) (kept_of cell w)) c.self.view_is
    (shown_before kinds.Interval before w (c.self.inside.kept ∷ [])
    (subst (λ (l : List Fact). AreShownBefore before w l) c.from_ref.ensures.value (c.any_comes_in.ensures none)))
