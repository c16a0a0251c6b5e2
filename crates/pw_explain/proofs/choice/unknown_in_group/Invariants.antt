use Rattle.std.proofs.Common.{◌≡◌, drop}
use Rattle.pw_info.specs.GroupNames.{names_in}
use Rattle.pw_explain.proofs.choice.unknown_in_group.Given as goal

-- the names that are left are those from the number on
abbrev pub invariant-loop-number : goal.invariant-loop-number
invariant-loop-number g l = l.names ≡ drop l.number (names_in l.word)
