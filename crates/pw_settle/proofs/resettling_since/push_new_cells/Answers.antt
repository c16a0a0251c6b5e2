use Rattle.std.proofs.Common.{sym, ◌∙◌, subst, arith}
use Rattle.pw_cells.proofs.Stores.{OnErr_always}
use Rattle.pw_cells.specs.Cells.{Store, fact_on}
use Rattle.pw_cells.specs.Shown.{IsKeptIn}
use Rattle.pw_settle.specs.inside.Known.{ListsOneMore}
use Rattle.pw_settle.specs.inside.Since.{BeginsWith}
use Rattle.pw_settle.proofs.ReadSince.{begins_more, begins_still, read_next}
use Rattle.pw_settle.proofs.resettling_since.push_new_cells.Goals as goal

pub loop-cell-preserved : goal.loop-cell-preserved
loop-cell-preserved g c =
    let same = c.loop-cell.invariant.same in
    let more = c.in_ok-push_kept.ensures.kept in
    record {
      same = c.push_kept.ensures.unchanged ∙ same;
      least = omega (arith, c.loop-cell.invariant.least);
      read = read_next c.args.store.now c.args.worldview.now c.args.known.now.infos.items c.args.known.now.supports c.loop-cell.cell
          c.loop-cell.known.infos.items c.push_kept.new.infos.items c.loop-cell.known.supports c.push_kept.new.supports
          c.loop-cell.invariant.read c.loop-cell.invariant.least
          (subst (λ (s : Store). ListsOneMore (λ info support. IsKeptIn s c.loop-cell.cell c.args.worldview.now (fact_on info support))
          c.loop-cell.known.infos.items c.push_kept.new.infos.items c.loop-cell.known.supports c.push_kept.new.supports) same more);
      infos = begins_more c.args.known.now.infos.items c.loop-cell.known.infos.items more.fact.info c.push_kept.new.infos.items
          c.loop-cell.invariant.infos more.infos_are;
      supports = begins_more c.args.known.now.supports c.loop-cell.known.supports more.fact.support c.push_kept.new.supports
          c.loop-cell.invariant.supports more.supports_are;
    }

pub returns-in_err-push_kept-clause-first : goal.returns-in_err-push_kept-clause-first
returns-in_err-push_kept-clause-first g c =
    OnErr_always c.from_residual.result (
      begins_still c.args.known.now.infos.items c.loop-cell.known.infos.items c.push_kept.new.infos.items c.loop-cell.invariant.infos
          c.in_err-push_kept.ensures.infos,
      subst (BeginsWith c.args.known.now.supports) (sym c.in_err-push_kept.ensures.supports) c.loop-cell.invariant.supports,
    )
