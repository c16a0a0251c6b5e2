use Rattle.std.proofs.Common.{sym, ◌∙◌, ap}
use Rattle.pw_cells.specs.inside.Widths.{cell_of}
use Rattle.pw_cells.proofs.Shown.{is_kept_as}
use Rattle.pw_cells.proofs.cell_facts.CellFacts.kept.Goals as goal
use Rattle.pw_cells.proofs.cell_facts.CellFacts.kept.Goals.{in-One, in-FewIntervals, in-Few, in-Many}

pub returns-clause-kept : goal.returns-clause-kept
returns-clause-kept g c = elim c.match-self.branch [
  | in-One w ↦ is_kept_as _ _ _ _ _ (ap cell_of (sym w.in-One.is) ∙ c.self.view_is) (w.result-is ∙ w.fact.ensures) w.kept.ensures
  | in-FewIntervals w ↦
      is_kept_as _ _ _ _ _ (ap cell_of (sym w.in-FewIntervals.is) ∙ c.self.view_is) (w.result-is ∙ w.fact-in-FewIntervals.ensures) w.kept-in-FewIntervals.ensures
  | in-Few w ↦ is_kept_as _ _ _ _ _ (ap cell_of (sym w.in-Few.is) ∙ c.self.view_is) (w.result-is ∙ w.fact-in-Few.ensures) w.kept-in-Few.ensures
  | in-Many w ↦ is_kept_as _ _ _ _ _ (w.deref_mut.ensures.value ∙ ap cell_of (sym w.in-Many.is) ∙ c.self.view_is) w.result-is w.kept-in-Many.ensures.kept
]
