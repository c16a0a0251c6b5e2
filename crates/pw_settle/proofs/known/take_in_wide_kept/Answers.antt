use Rattle.pw_cells.proofs.Stores.{OnErr_always}
use Rattle.pw_cells.specs.Cells.{kept_in}
use Rattle.pw_settle.proofs.KnownParts.{tested_unsaid}
use Rattle.pw_settle.proofs.known.take_in_wide_kept.Goals as goal

pub returns-clause-taken : goal.returns-clause-taken
returns-clause-taken g c = record {
  news = λ e. (
    c.kept-fact.result,
    record {
      info = c.kept-fact.ensures.info;
      kind = c.kept-fact.ensures.kind;
      within = c.kept-fact.ensures.within;
      same = c.kept-fact.ensures.same;
      rests = c.kept-fact.ensures.rests;
      told = c.kept-fact.ensures.told;
      larger = c.kept-fact.ensures.larger;
      smaller = c.kept-fact.ensures.smaller;
    },
    c.in_ok-take_in.ensures.taken,
  );
  unsaid = λ e. tested_unsaid c.args.infos.now c.args.cell c.index-infos-cell.result c.kept-fact.result.info
      (kept_in c.args.store.now c.args.cell c.args.worldview.now) c.implies.result c.requires.there c.kept-fact.ensures.info c.implies.ensures
      c.if-implies.false;
  none = λ e. absurd (cc);
}

pub returns-in_err-take_in-clause-refused : goal.returns-in_err-take_in-clause-refused
returns-in_err-take_in-clause-refused g c =
    OnErr_always c.from_residual.result (record {
      unsaid = tested_unsaid c.args.infos.now c.args.cell c.index-infos-cell.result c.kept-fact.result.info
          (kept_in c.args.store.now c.args.cell c.args.worldview.now) c.implies.result c.requires.there c.kept-fact.ensures.info
          c.implies.ensures c.if-implies.false;
      stays = c.in_err-take_in.ensures.refused;
    })
