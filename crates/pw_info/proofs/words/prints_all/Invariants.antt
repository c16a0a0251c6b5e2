use Rattle.std.proofs.Common.{◌≡◌, true, take}
use Rattle.std.specs.Prelude.{IsTrue}
use Rattle.std.specs.List.{list_all}
use Rattle.pw_info.specs.Words.{is_allowed}
use Rattle.pw_info.proofs.words.prints_all.Given as goal

abbrev pub invariant-loop-byte : goal.invariant-loop-byte
invariant-loop-byte l = IsTrue l.all → list_all is_allowed (take l.byte-index l.line) ≡ true
