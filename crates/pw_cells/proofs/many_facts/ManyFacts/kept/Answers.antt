use Rattle.std.proofs.Common.{sym, ◌∙◌, ap}
use Rattle.pw_cells.specs.inside.Widths.{cell_in}
use Rattle.pw_cells.proofs.Shown.{is_kept_as}
use Rattle.pw_cells.proofs.many_facts.ManyFacts.kept.Goals as goal
use Rattle.pw_cells.proofs.many_facts.ManyFacts.kept.Goals.{in-Intervals, in-Narrow, in-Wide}

pub returns-clause-kept : goal.returns-clause-kept
returns-clause-kept g c = elim c.match-self.branch [
  | in-Intervals w ↦ is_kept_as _ _ _ _ _ (ap cell_in (sym w.in-Intervals.is) ∙ c.self.view_is) (w.result-is ∙ w.fact.ensures) w.kept.ensures.kept
  | in-Narrow w ↦ is_kept_as _ _ _ _ _ (ap cell_in (sym w.in-Narrow.is) ∙ c.self.view_is) (w.result-is ∙ w.fact-in-Narrow.ensures) w.kept-in-Narrow.ensures.kept
  | in-Wide w ↦ is_kept_as _ _ _ _ _ (ap cell_in (sym w.in-Wide.is) ∙ c.self.view_is) (w.result-is ∙ w.fact-in-Wide.ensures) w.kept-in-Wide.ensures.kept
]
