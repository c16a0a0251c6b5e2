use Rattle.std.proofs.Common.{refl, arith}
use Rattle.pw_decl.proofs.FlatLemmas.{range_more}
use Rattle.pw_decl.proofs.flattening.first_places.Goals as goal

pub loop-place-preserved : goal.loop-place-preserved
loop-place-preserved g c =
    rw (c.in_ok-push.ensures.items, c.loop-place.invariant, range_more 0 c.loop-place.place c.loop-place.place (omega arith)) refl
