use Rattle.std.proofs.Common.{◌≡◌, drop}
use Rattle.pw_info.specs.Words.{words_of}
use Rattle.pw_explain.proofs.command.explain_premise.Given as goal

-- the words that are left are those from the number on
abbrev pub invariant-loop-number : goal.invariant-loop-number
invariant-loop-number g l = l.words ≡ drop l.number (words_of l.line)
