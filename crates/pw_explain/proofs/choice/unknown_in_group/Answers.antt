use Rattle.pw_info.specs.GroupNames.{names_in}
use Rattle.pw_explain.proofs.NearestNames.{next_words}
use Rattle.pw_explain.proofs.choice.unknown_in_group.Goals as goal

pub loop-number-preserved : goal.loop-number-preserved
loop-number-preserved g c = next_words (names_in c.args.word.now) _ _ c.loop-number.number _ c.next.ensures c.loop-number.invariant
