use Rattle.std.proofs.Common.{◌≡◌, drop}
use Rattle.pw_info.specs.Words.{is_idle}
use Rattle.pw_info.proofs.words.idles.Given as goal

abbrev pub invariant-loop-byte : goal.invariant-loop-byte
invariant-loop-byte l = is_idle (drop l.byte-index l.line) ≡ is_idle l.line
