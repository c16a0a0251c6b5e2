use Rattle.pw_transcript.proofs.IsolationLemmas.{same_reply}
use Rattle.pw_transcript.proofs.laws.isolation.Goals as goal

pub returns : goal.returns
returns c = λ d number text blanked lines answer other well. same_reply d well number text blanked lines answer other
