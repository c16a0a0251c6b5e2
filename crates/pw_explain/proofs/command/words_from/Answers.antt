use Rattle.pw_info.specs.Words.{words_of}
use Rattle.pw_explain.proofs.NearestNames.{next_words}
use Rattle.pw_explain.proofs.command.words_from.Goals as goal

pub loop-preserved : goal.loop-preserved
loop-preserved c = next_words (words_of c.args.line.now) _ _ _ _ c.next.ensures c.loop.invariant
