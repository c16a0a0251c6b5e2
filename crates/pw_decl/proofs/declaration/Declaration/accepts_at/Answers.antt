use Rattle.std.proofs.Common.{length, ap, arith, length-set, length-take}
use Rattle.pw_decl.proofs.CompoundLemmas.{kinds_more}
use Rattle.pw_decl.proofs.declaration.Declaration.accepts_at.Goals as goal

pub loop-number-preserved : goal.loop-number-preserved
loop-number-preserved g c =
    let there = rw (← c.cells-places.ensures.cells) at c.requires.places in
    let i = c.loop-number.number in
    let same = c.cells-places.ensures.cells in
    let few = c.args.places.shape.most in
    record {
      room = omega (arith, length-set c.loop-number.given i c.index-kinds-places.result);
      so_far = kinds_more c.args.kinds.now c.loop-number.given c.cells-places.result.now i c.index-kinds-places.result
          c.loop-number-test.true (omega (arith, ap length same, length-take c.args.places.count c.args.places.held)) there c.index-kinds-places.is c.loop-number.invariant.so_far;
    }
