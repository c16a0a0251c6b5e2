use Rattle.pw_explain.specs.Spot.{PassesWords}
use Rattle.pw_explain.proofs.spot.find_word.Given as goal

-- as many words as passes so far come before the end of the last one
abbrev pub invariant-loop : goal.invariant-loop
invariant-loop l = PassesWords l.line l.counter l.end
