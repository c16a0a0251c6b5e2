use Rattle.std.proofs.Common.{◌∙◌, subst, arith}
use Rattle.pw_sessions.specs.inside.Steps.{CanBeSpared}
use Rattle.pw_sessions.proofs.SnapshotLists.{spares_next}
use Rattle.pw_sessions.proofs.workbench.snapshots.make_room.Goals as goal

pub loop-preserved : goal.loop-preserved
loop-preserved g c =
    let can : CanBeSpared c.args.beliefs.now c.loop.snapshots.items c.in-Some.place =
    subst (λ l. CanBeSpared c.args.beliefs.now l c.in-Some.place) c.deref-in-loop.ensures.value c.in-Some.ensures in
    record {
      spares =
          spares_next c.args.beliefs.now c.args.snapshots.now.items c.loop.snapshots.items c.give_up.new.snapshots.items c.in-Some.place
          c.loop.invariant.spares can.0 can.1 c.give_up.ensures.items;
      len = omega (arith, c.give_up.ensures.len, c.loop.invariant.len);
      capacity = c.give_up.ensures.capacity ∙ c.loop.invariant.capacity;
    }
