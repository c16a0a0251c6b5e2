use Rattle.std.proofs.Common.{◌≡◌, ◌++◌, replicate}
use Rattle.pw_explain.proofs.explanation.add_times.Given as goal

-- the byte was added as many times as there were passes
abbrev pub invariant-loop : goal.invariant-loop
invariant-loop g l = l.text.items ≡ l.fn.text.items ++ replicate l.counter l.byte
