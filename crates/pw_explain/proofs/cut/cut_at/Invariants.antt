use Rattle.std.proofs.Common.{◌-◌}
use Rattle.pw_explain.proofs.CutLemmas.{Precede}
use Rattle.pw_explain.proofs.cut.cut_at.Given as goal

-- the lines that were passed come before the rest
abbrev pub invariant-loop : goal.invariant-loop
invariant-loop l = Precede l.text l.rest (l.counter - 1)
