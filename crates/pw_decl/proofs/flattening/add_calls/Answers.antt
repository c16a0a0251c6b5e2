use Rattle.std.proofs.Common.{◌+◌, refl}
use Rattle.pw_decl.specs.Expansion.{at_place}
use Rattle.pw_decl.proofs.FlatLemmas.{calls_more}
use Rattle.pw_decl.proofs.flattening.add_calls.Goals as goal

pub loop-call-preserved : goal.loop-call-preserved
loop-call-preserved g c =
    rw (c.in_ok-push.ensures.items)
    (calls_more (at_place c.args.cells.now (λ j. c.args.first + j)) c.args.added.now.items c.loop-call.added.items c.args.calls.now c.loop-call.call-index
    c.call-item.result _ c.loop-call-test.true c.call-item.is refl c.place_cells.ensures c.loop-call.invariant)
