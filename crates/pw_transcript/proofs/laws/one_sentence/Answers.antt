use Rattle.pw_transcript.proofs.SentenceLemmas.{given, found}
use Rattle.pw_transcript.proofs.laws.one_sentence.Goals as goal

pub returns : goal.returns
returns c = λ words sentence. (given words sentence, found words sentence)
