use Rattle.std.proofs.Common.{subst}
use Rattle.std.specs.Prelude.{OnErr}
use Rattle.pw_cells.specs.Cells.{Store, fact_on, kept_in}
use Rattle.pw_settle.specs.inside.Known.{LeavesKept}
use Rattle.pw_settle.proofs.KnownParts.{tested_unsaid}
use Rattle.pw_settle.proofs.known.take_in_kept.Goals as goal

pub returns-in-Some-clause-taken : goal.returns-in-Some-clause-taken
returns-in-Some-clause-taken g c = record {
  news = λ e. (fact_on c.in-Some.fact.info c.in-Some.fact.support, c.in-Some.ensures.kept, c.take_in_narrow.ensures);
  unsaid = λ e. tested_unsaid c.args.infos.now c.args.cell c.index-infos-cell.result c.in-Some.fact.info
      (kept_in c.args.store.now c.args.cell c.args.worldview.now) c.implies.result c.requires.there c.in-Some.ensures.kept.info c.implies.ensures
      c.if-implies.false;
  none = λ e. absurd (cc);
}

pub returns-clause-refused : goal.returns-clause-refused
returns-clause-refused g c =
    subst (λ (s : Store). OnErr c.take_in_wide_kept.result (LeavesKept s c.args.cell c.args.worldview.now c.args.infos.now
    c.take_in_wide_kept.new.infos c.args.supports.now c.take_in_wide_kept.new.supports))
    c.in_default.ensures.unchanged c.take_in_wide_kept.ensures.refused
