-- What a settling comes to that goes on from values which were read first.
use Rattle.std.proofs.Common.{◌≡◌, ℕ, Bool, List, subst}
use Rattle.std.specs.Prelude.{IfOk, OnOk, Result}
use Rattle.std.proofs.lemmas.Result.{IfOk-weaker}
use Rattle.pw_premises.specs.Premises.{Premises}
use Rattle.pw_cells.specs.Cells.{Store}
use Rattle.pw_network.specs.Network.{Network}
use Rattle.pw_settle.specs.Growth.{HasValues, KeepsIfSound, KeepsMore, RestOnUpstream, StaysUpstreamAfter}
use Rattle.pw_settle.specs.Settled.{Settled}
use Rattle.pw_settle.specs.Settling.{Settles}
use Rattle.pw_settle.specs.Sound.{LieUpstream, RestsUpstream}
use Rattle.pw_settle.specs.inside.Known.{StayUpstream}

-- reading changed nothing, and the premises that were read lay upstream where those that are kept did
pub settles_from : {E : Type 0} (network : Network) (old read new : Store) (w : Premises) (r : Result Settled E) (supports : List Premises) →
    read ≡ old → RestOnUpstream network old supports → IfOk r (HasValues network read new w) → OnOk r (KeepsIfSound network read new w) →
    KeepsMore network read new → StaysUpstreamAfter network supports read new →
    IfOk r (λ settled. StayUpstream network read supports new settled.supports) → Settles network old new w r
settles_from network old read new w r supports same own found kept grows upstream stay =
    subst (λ (s : Store). Settles network s new w r) same (record {
      found = found;
      kept = kept;
      lie = IfOk-weaker r (λ settled. StayUpstream network read supports new settled.supports) (λ settled. RestOnUpstream network read settled.supports)
          (λ settled stays given rests. (stays given (record { kept = rests; known = lie given rests })).known) stay;
      grows = grows;
      upstream = λ given rests. upstream given rests (lie given rests);
    })
  where
    lie : (given : ℕ → ℕ → Bool) → RestsUpstream network given read → LieUpstream network given supports
    lie given rests = own given (subst (RestsUpstream network given) same rests)
