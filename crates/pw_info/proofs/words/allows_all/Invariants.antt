use Rattle.std.proofs.Common.{◌≡◌, take}
use Rattle.std.specs.List.{list_all}
use Rattle.pw_info.specs.Words.{is_allowed}
use Rattle.pw_info.proofs.words.allows_all.Given as goal

abbrev pub invariant-loop-byte : goal.invariant-loop-byte
invariant-loop-byte l = l.all ≡ list_all is_allowed (take l.byte-index l.line)
