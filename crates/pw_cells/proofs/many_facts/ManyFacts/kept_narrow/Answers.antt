use Rattle.std.proofs.Common.{sym, ◌∙◌, ap, subst}
use Rattle.std.specs.Prelude.{IfSome}
use Rattle.pw_cells.specs.Cells.{fact_on}
use Rattle.pw_cells.specs.Shown.{IsKeptOf}
use Rattle.pw_cells.specs.inside.Widths.{cell_in}
use Rattle.pw_cells.proofs.Shown.{is_kept_so}
use Rattle.pw_cells.proofs.many_facts.ManyFacts.kept_narrow.Goals as goal
use Rattle.pw_cells.proofs.many_facts.ManyFacts.kept_narrow.Goals.{in-Intervals, in-Narrow, in-Wide}

pub returns-clause-kept : goal.returns-clause-kept
returns-clause-kept g c = elim c.match-self.branch [
  | in-Intervals w ↦
      subst (λ r. IfSome r (λ fact. IsKeptOf c.args.self.now c.args.worldview.now (fact_on fact.info fact.support))) (sym w.result-is)
      (is_kept_so _ _ _ _ _ _ (ap cell_in (sym w.in-Intervals.is) ∙ c.self.view_is) w.narrow.ensures.info w.narrow.ensures.support w.kept.ensures.kept)
  | in-Narrow w ↦
      subst (λ r. IfSome r (λ fact. IsKeptOf c.args.self.now c.args.worldview.now (fact_on fact.info fact.support))) (sym w.result-is)
      (is_kept_so _ _ _ _ _ _ (ap cell_in (sym w.in-Narrow.is) ∙ c.self.view_is) w.narrow-in-Narrow.ensures.info w.narrow-in-Narrow.ensures.support w.kept-in-Narrow.ensures.kept)
  | in-Wide w ↦ subst (λ r. IfSome r (λ fact. IsKeptOf c.args.self.now c.args.worldview.now (fact_on fact.info fact.support))) (sym w.result-is) tt
]
