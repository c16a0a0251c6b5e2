use Rattle.std.specs.Prelude.{◌≡◌, drop}
use Rattle.pw_info.specs.Words.{words_of}
use Rattle.pw_explain.proofs.command.words_from.Given as goal

abbrev pub invariant-loop : goal.invariant-loop
invariant-loop l = l.words ≡ drop l.counter (words_of l.line)
