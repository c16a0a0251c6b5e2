use Rattle.pw_info.specs.Words.{words_of}
use Rattle.pw_explain.proofs.NearestNames.{next_words}
use Rattle.pw_explain.proofs.choice.unknown_premise_in_groups.Goals as goal

pub loop-number-preserved : goal.loop-number-preserved
loop-number-preserved g c = next_words (words_of c.args.line.now) _ _ c.loop-number.number _ c.next.ensures c.loop-number.invariant
