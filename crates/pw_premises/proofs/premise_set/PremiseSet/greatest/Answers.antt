use Rattle.std.proofs.Common.{◌-◌, arith}
use Rattle.pw_premises.proofs.NumberWords.{greatest_in_words, no_number}
use Rattle.pw_premises.proofs.premise_set.PremiseSet.greatest.Goals as goal

pub returns-then-word-ne0-clause-some : goal.returns-then-word-ne0-clause-some
returns-then-word-ne0-clause-some c =
    greatest_in_words c.self.inside.words c.args.self.now c.self.view_is (7 - c.loop-back.back) c.ilog2.result (omega arith) (λ j h above. c.loop-back.invariant j h (omega arith))
    c.ilog2.ensures.power_le c.ilog2.ensures.next_power_gt c.ilog2.ensures.bound

pub returns-clause-none : goal.returns-clause-none
returns-clause-none c =
    no_number c.self.inside.words c.args.self.now c.self.view_is (λ j h. c.loop-back.invariant j h (omega arith))
