use Rattle.std.proofs.Common.{◌≡◌, ◌++◌, map, take}
use Rattle.pw_explain.specs.Explanation.{shown_byte}
use Rattle.pw_explain.proofs.explanation.add_shown.Given as goal

-- the bytes so far were added as they are shown
abbrev pub invariant-loop-byte : goal.invariant-loop-byte
invariant-loop-byte g l = l.text.items ≡ l.initial.text.items ++ map shown_byte (take l.byte-index l.byte-items)
