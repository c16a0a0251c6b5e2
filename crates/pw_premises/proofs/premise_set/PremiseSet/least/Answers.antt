use Rattle.std.proofs.Common.{arith}
use Rattle.pw_premises.proofs.NumberWords.{least_in_words, no_number}
use Rattle.pw_premises.proofs.premise_set.PremiseSet.least.Goals as goal

pub returns-then-word-ne0-clause-some : goal.returns-then-word-ne0-clause-some
returns-then-word-ne0-clause-some c =
    least_in_words c.self.inside.words c.args.self.now c.self.view_is c.self.invariant c.loop-i.i (omega arith) c.loop-i.invariant c.if-word-ne0.true

pub returns-clause-none : goal.returns-clause-none
returns-clause-none c =
    no_number c.self.inside.words c.args.self.now c.self.view_is (λ j h. c.loop-i.invariant j (omega arith))
