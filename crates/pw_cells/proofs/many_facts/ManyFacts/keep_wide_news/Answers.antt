use Rattle.std.proofs.Common.{subst}
use Rattle.pw_premises.specs.Premises.{Premises}
use Rattle.pw_cells.specs.Cells.{fact_on}
use Rattle.pw_cells.specs.inside.CellChanges.{KeepsFact}
use Rattle.pw_cells.proofs.Stores.{OnErr_always}
use Rattle.pw_cells.proofs.many_facts.ManyFacts.keep_wide_news.Goals as goal

pub keep_wide-requires : goal.keep_wide-requires
keep_wide-requires g c = c.requires.kind

pub returns-in_err-keep_wide-clause-err : goal.returns-in_err-keep_wide-clause-err
returns-in_err-keep_wide-clause-err g c = OnErr_always c.from_residual.result c.in_err-keep_wide.ensures.err

pub returns-clause-kept : goal.returns-clause-kept
returns-clause-kept g c =
    subst (λ (support : Premises). KeepsFact (fact_on c.args.info.now support) c.args.self.now c.keep_wide.new.self) c.widen.ensures.same c.in_ok-keep_wide.ensures.kept
