use Rattle.std.proofs.Common.{◌≡◌, take, true}
use Rattle.std.specs.List.{list_all}
use Rattle.pw_info.specs.Words.{is_allowed}
use Rattle.pw_explain.proofs.spot.place_of_byte.Given as goal

-- the line may have the bytes so far
abbrev pub invariant-loop-i : goal.invariant-loop-i
invariant-loop-i l = list_all is_allowed (take l.i l.line) ≡ true
