use Rattle.std.proofs.Common.{arith}
use Rattle.pw_network.proofs.AttachedCells.{made_more}
use Rattle.pw_network.proofs.attaching.append_inner.Goals as goal

pub loop-number-preserved : goal.loop-number-preserved
loop-number-preserved g c =
    let i = c.loop-number.number in
    record {
      items = made_more c.args.line c.args.first c.args.list c.args.inner.now.items c.loop-number.inner.items c.push_reserved.new.self.items c.args.kinds.now
          i c.index-kinds-number.result c.loop-number-test.true c.push_reserved.ensures.items
          c.index-kinds-number.is c.loop-number.invariant.items;
      room = omega (arith, c.loop-number.invariant.room, c.push_reserved.ensures.len, c.push_reserved.ensures.capacity);
    }
