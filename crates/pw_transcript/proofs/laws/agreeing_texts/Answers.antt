use Rattle.pw_transcript.proofs.IsolationLemmas.{agreeing}
use Rattle.pw_transcript.proofs.laws.agreeing_texts.Goals as goal

pub returns : goal.returns
returns c = λ d number text other lines answer same well. agreeing d well number text other lines answer same
