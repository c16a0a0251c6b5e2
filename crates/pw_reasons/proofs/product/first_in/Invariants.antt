use Rattle.std.proofs.Common.{◌≡◌, false, take}
use Rattle.std.specs.FinSet.{contains}
use Rattle.std.specs.List.{list_any}
use Rattle.pw_reasons.proofs.product.first_in.Given as goal

-- none so far is in the set
abbrev pub invariant-loop-premise : goal.invariant-loop-premise
invariant-loop-premise l = list_any (contains l.set) (take l.premise-index l.group) ≡ false
