use Rattle.std.proofs.Common.{subst}
use Rattle.std.specs.Prelude.{OnOk}
use Rattle.pw_cells.specs.Cells.{Store, fact_on}
use Rattle.pw_cells.specs.Shown.{IsKeptIn}
use Rattle.pw_settle.specs.inside.Known.{ListsOneMore}
use Rattle.pw_settle.proofs.known.push_kept.Goals as goal

pub returns-in-Some-clause-kept : goal.returns-in-Some-clause-kept
returns-in-Some-clause-kept g c = record {
  fact = fact_on c.in-Some.fact.info c.in-Some.fact.support;
  is = c.in-Some.ensures.kept;
  infos_are = c.in_ok-push.ensures.items;
  supports_are = c.in_ok-push_narrow.ensures.ok;
}

pub returns-clause-kept : goal.returns-clause-kept
returns-clause-kept g c =
    subst (λ (s : Store). OnOk c.push_wide_kept.result (ListsOneMore (λ info support. IsKeptIn s c.args.cell c.args.worldview.now (fact_on info support))
    c.args.infos.now.items c.push_wide_kept.new.infos.items c.args.supports.now c.push_wide_kept.new.supports))
    c.in_default.ensures.unchanged c.push_wide_kept.ensures.kept
