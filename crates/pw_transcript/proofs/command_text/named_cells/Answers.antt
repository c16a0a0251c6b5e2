use Rattle.std.proofs.Common.{length, length-set, sym, ap, ◌∙◌, arith, length-take-le}
use Rattle.pw_decl.specs.inside.Fields.{declared}
use Rattle.pw_transcript.specs.inside.Forms.{before_under}
use Rattle.pw_transcript.proofs.CellLists.{cells_rest, cells_step}
use Rattle.pw_transcript.proofs.command_text.named_cells.Goals as goal

pub loop-word-smaller : goal.loop-word-smaller
loop-word-smaller g c = omega (arith, ap length c.in-Some.ensures.first)

pub slice_bounds-of-end : goal.slice_bounds-of-end
slice_bounds-of-end g c =
    let inv = c.loop-word.invariant in
    sym (length-take-le c.loop-word.count c.loop-word.cells (omega (arith, inv.room, inv.most)))

pub loop-word-preserved : goal.loop-word-preserved
loop-word-preserved g c =
    let inv = c.loop-word.invariant in
    let d = declared c.args.declaration.now in
    let words = before_under c.loop-word.words in
    let rest = before_under c.next_cell.new.words in
    record {
      room = length-set c.loop-word.cells c.loop-word.count c.in-Some-cell.cell ∙ inv.room;
      most = omega arith;
      counted = omega (arith, inv.counted, ap length c.in-Some.ensures.cells);
      named = cells_step d _ c.loop-word.cells words rest c.in-Some.word.now c.loop-word.count c.in-Some-cell.cell
          inv.named c.in-Some.ensures.cells c.in-Some-cell.ensures.number (omega (arith, inv.room));
      known = cells_rest d words rest c.in-Some.word.now c.in-Some.ensures.cells inv.known;
    }
